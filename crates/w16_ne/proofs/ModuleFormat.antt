-- A module is read exactly where it is, and a file has one.
use Rattle.w16_ne.proofs
use proofs.Common as C
use proofs.Common.{◌≡◌, ℕ, ◌+◌, ◌<◌, ◌⊎◌, inl, inr, Bool, true, false, cond, ltb, eqb, List, [], length, take, drop, Some, Ok, Err, refl, sym, ap, subst, ◌∙◌, arith, nat_tests, Reading, ◌>>=◌, entry_table, entry_length, segment_count, nonresident_length, nonresident_names, resident_names}
use proofs.Common.{Entry, resident_at, table_names, nonresident_at, entries_in, table_at, Tables, tables_at, AreNames, IsPart, IsModule}
use proofs.SegmentsFormat.{bind_ok, passed, segments_format}
use proofs.HeaderFormat.{old_is, old_read, header_is, header_read, fields_are, fields_read}
use proofs.ReferencesFormat.{references_are, references_read}
use proofs.ListedFormat.{listed_are, listed_read}
use proofs.ResourcesFormat.{resources_are, resources_read}
use proofs.{Until.reads_ok, NamesFormat.names_format, EntriesFormat.entries_format}
use Rattle.w16_ne.specs.declared.fault.NeFault.TheVariants as faults
use Rattle.w16_ne.specs.declared.entry_table.Entry as entries

same_ok : {A : Type 0} (x y : A) → ◌≡◌ {A = Reading A} (Ok x) (Ok y) → x ≡ y
same_ok x y h = cc

-- a table that has a length, whose bytes are cut from the file, or one of no bytes
module _ {T : Type 0} (file : List ℕ) (at len : ℕ) (read : List ℕ → Reading (List T)) (none_read : read [] ≡ Ok []) where
  abbrev part : Bool → Reading (List T)
  part b = cond b (Ok []) (C.bytes_or faults.Truncated (Some file) at len >>= read)

  none_cut : len ≡ 0 → take len (drop at file) ≡ []
  none_cut none = rw none refl

  part_is : (xs : List T) (b : Bool) → eqb len 0 ≡ b → part b ≡ Ok xs → IsPart file at len × (read (take len (drop at file)) ≡ Ok xs)
  part_is xs true q h =
      let none : len ≡ 0 = grind (arith, nat_tests, q) in
      (λ some. absurd (omega (arith, none, some)), ap read (none_cut none) ∙ none_read ∙ h)
  part_is xs false q h =
      let first = reads_ok (ltb (length file) (at + len)) faults.Truncated (take len (drop at file)) read xs h in
      (λ some. grind (arith, nat_tests, first.0), first.1)

  part_read : (xs : List T) (b : Bool) → eqb len 0 ≡ b → IsPart file at len → read (take len (drop at file)) ≡ Ok xs → part b ≡ Ok xs
  part_read xs true q there h =
      let none : len ≡ 0 = grind (arith, nat_tests, q) in
      sym none_read ∙ ap read (sym (none_cut none)) ∙ h
  part_read xs false q there h =
      let some : 0 < len = grind (arith, nat_tests, q) in
      let inside : ltb (length file) (at + len) ≡ false = grind (arith, nat_tests, there some) in
      rw inside h

no_entries : (segments : ℕ) → entries_in [] segments ≡ Ok []
unfolding entries_in
no_entries segments = refl

no_names : table_names [] ≡ Ok []
unfolding table_names
no_names = refl

module _ (file header : List ℕ) where
  abbrev nonresident_cut : List ℕ
  nonresident_cut = take (nonresident_length header) (drop (nonresident_names header) file)

  nonresident_is : (es : List Entry) → nonresident_at (Some file) header ≡ Ok es → IsPart file (nonresident_names header) (nonresident_length header) × C.AreListed nonresident_cut 0 es
  unfolding nonresident_at
  nonresident_is es h =
      let is = part_is file (nonresident_names header) (nonresident_length header) table_names no_names es (eqb (nonresident_length header) 0) refl h in
      (is.0, listed_are nonresident_cut es is.1)

  nonresident_read : (es : List Entry) → IsPart file (nonresident_names header) (nonresident_length header) → C.AreListed nonresident_cut 0 es → nonresident_at (Some file) header ≡ Ok es
  unfolding nonresident_at
  nonresident_read es there are = part_read file (nonresident_names header) (nonresident_length header) table_names no_names es (eqb (nonresident_length header) 0) refl there (listed_read nonresident_cut es are)

  module _ (ne : ℕ) where
    abbrev entries_cut : List ℕ
    entries_cut = take (entry_length header) (drop (ne + entry_table header) file)

    entries_are : (es : List (C.Option entries.Entry)) → table_at (Some file) ne header ≡ Ok es → IsPart file (ne + entry_table header) (entry_length header) × C.IsEntryTable entries_cut (segment_count header) es
    unfolding table_at
    entries_are es h =
        let is = part_is file (ne + entry_table header) (entry_length header) (λ t. entries_in t (segment_count header)) (no_entries (segment_count header)) es (eqb (entry_length header) 0) refl h in
        (is.0, (entries_format entries_cut (segment_count header) es).0 is.1)

    entries_read : (es : List (C.Option entries.Entry)) → IsPart file (ne + entry_table header) (entry_length header) → C.IsEntryTable entries_cut (segment_count header) es → table_at (Some file) ne header ≡ Ok es
    unfolding table_at
    entries_read es there is =
        part_read file (ne + entry_table header) (entry_length header) (λ t. entries_in t (segment_count header)) (no_entries (segment_count header)) es (eqb (entry_length header) 0) refl there
        ((entries_format entries_cut (segment_count header) es).1 is)

    resident_is : (es : List Entry) → resident_at (Some file) ne header ≡ Ok es → AreNames file (ne + resident_names header) es × (0 < length es)
    unfolding resident_at
    resident_is es h =
        let names = bind_ok (C.names_at (Some file) (ne + resident_names header)) _ es h in
        let some = passed (eqb (length names.0) 0) faults.BadTable (Ok names.0) es names.1.1 in
        let same : names.0 ≡ es = cc (some.1) in
        subst (λ xs. AreNames file (ne + resident_names header) xs × (0 < length xs)) same ((names_format file (ne + resident_names header) names.0).0 names.1.0, grind (arith, nat_tests, some.0))

    resident_read : (es : List Entry) → AreNames file (ne + resident_names header) es → 0 < length es → resident_at (Some file) ne header ≡ Ok es
    unfolding resident_at
    resident_read es are some =
        let names = (names_format file (ne + resident_names header) es).1 are in
        let more : eqb (length es) 0 ≡ false = grind (arith, nat_tests) in
        rw (names, more) refl

module _ (file : List ℕ) (t : Tables) where
  module_is : tables_at (Some file) ≡ Ok t → IsModule file t
  unfolding tables_at C.tables_behind
  module_is h =
      let ne = bind_ok (C.place_at (Some file)) _ t h in
      let header = bind_ok (C.header_at (Some file) ne.0) _ t ne.1.1 in
      let fields = bind_ok (C.fields_of header.0) _ t header.1.1 in
      let segments = bind_ok (C.segments_at (Some file) ne.0 header.0) _ t fields.1.1 in
      let resident = bind_ok (resident_at (Some file) ne.0 header.0) _ t segments.1.1 in
      let references = bind_ok (C.references_at (Some file) ne.0 header.0) _ t resident.1.1 in
      let entries = bind_ok (table_at (Some file) ne.0 header.0) _ t references.1.1 in
      let nonresident = bind_ok (nonresident_at (Some file) header.0) _ t entries.1.1 in
      let resources = bind_ok (C.resources_at (Some file) ne.0 header.0) (λ found. Ok (C.tables_of ne.0 header.0 segments.0 resident.0 references.0 entries.0 nonresident.0 found)) t nonresident.1.1 in
      let same = same_ok (C.tables_of ne.0 header.0 segments.0 resident.0 references.0 entries.0 nonresident.0 resources.0) t resources.1.1 in
      let residents = resident_is file header.0 ne.0 resident.0 resident.1.0 in
      let nonresidents = nonresident_is file header.0 nonresident.0 nonresident.1.0 in
      let all = entries_are file header.0 ne.0 entries.0 entries.1.0 in
      subst (λ x. IsModule file x) same (record {
        old = old_is file ne.0 ne.1.0;
        header = header_is file ne.0 header.0 header.1.0;
        accepted = fields_are header.0 fields.1.0;
        segments = (segments_format file header.0 ne.0 segments.0).0 segments.1.0;
        resident = resident.0;
        nonresident = nonresident.0;
        resident_are = residents.0;
        references = references_are file header.0 ne.0 references.0 references.1.0;
        entries_part = all.0;
        entries = all.1;
        nonresident_part = nonresidents.0;
        nonresident_are = nonresidents.1;
        resources = resources_are file header.0 ne.0 resources.0 resources.1.0;
        named = record { some = residents.1; name = refl; description = refl; names = refl; many = refl };
      })

  module_read : IsModule file t → tables_at (Some file) ≡ Ok t
  unfolding tables_at C.tables_behind
  module_read is =
      let ne = old_read file t.place is.old in
      let header = header_read file t.place t.header is.header in
      let fields = fields_read t.header is.accepted in
      let segments = (segments_format file t.header t.place t.segments).1 is.segments in
      let resident = resident_read file t.header t.place is.resident is.resident_are is.named.some in
      let references = references_read file t.header t.place t.references is.references in
      let entries = entries_read file t.header t.place t.entries is.entries_part is.entries in
      let nonresident = nonresident_read file t.header is.nonresident is.nonresident_part is.nonresident_are in
      let resources = resources_read file t.header t.place t.resources is.resources in
      rw (ne, header, fields, segments, resident, references, entries, nonresident, resources, ← is.named.name, ← is.named.description, ← is.named.names, ← is.named.many) refl

pub module_format : C.ModuleFormatLaw
module_format file t = (module_is file t, module_read file t)

pub one_module : C.OneModuleLaw
one_module file = by (tables_at (Some file)) refl
  where
    by : (read : Reading Tables) → tables_at (Some file) ≡ read
        → ((t : Tables) × (IsModule file t) × ((u : Tables) → IsModule file u → u ≡ t)) ⊎ ((e : C.NeFault) × (tables_at (Some file) ≡ Err e) × ((t : Tables) → IsModule file t → ⊥))
    by (Ok t) h = inl (t, module_is file t h, λ u is. let both : ◌≡◌ {A = Reading Tables} (Ok u) (Ok t) = sym (module_read file u is) ∙ h in cc)
    by (Err e) h = inr (e, h, λ t is. let both : ◌≡◌ {A = Reading Tables} (Ok t) (Err e) = sym (module_read file t is) ∙ h in cc)
