-- The values of relocation records, and what a file says of them.
use Rattle.w16_loader.proofs
use proofs.Common as C
use proofs.Common.{◌≡◌, ℕ, zero, suc, ◌+◌, ◌-◌, ◌<◌, ◌≤◌, Bool, true, List, [], ◌∷◌, ◌++◌, length, take, map, Some, slice_get, Ok, Err, refl, sym, ap, ◌∙◌, subst, arith, All, is_ok, list_all, length-map, RelocFault, Held, checked, Far, ModuleFile, Module, data_in, module_file, tables_in}
use proofs.Common.{Files, IsSaid, IfSome}
use proofs.Files.{there}
use Rattle.w16_ne.specs.{declared.segment_table.Segment.Segment, Reading.Refuses, Modules.Tables}
use Rattle.w16_reloc.specs.Records.{name_in, text_of}
use Rattle.w16_reloc.specs.declared.record.Record.TheVariants.{Stored, Added, System}
use Rattle.w16_format.specs.Data.{record_target, target_by}
use Rattle.w16_loader.specs.{declared.fault.LoadFault.TheVariants.Refused, Closing.IsFault, Closing.fault_of_relocations}
use Rattle.w16_store.specs.declared.store.StoreFault.TheVariants as stores
use Rattle.w16_reloc.specs.declared.fault.RelocFault.TheVariants as relocs
use Rattle.w16_reloc.specs.declared.record.Target as pointing
use Rattle.w16_reloc.specs.declared.record.Target.TheVariants as points
use Rattle.w16_reloc.specs.Segments as segments
use Rattle.w16_loading.specs.File as loading

-- Faults.

-- A fault in a call is one since any time before it, and for what its refusal says.
pub fault_so : {P Q : C.LoadRefusal → Type 0} → ((refusal : C.LoadRefusal) → P refusal → Q refusal) → (before mid after : ℕ) (fault : C.LoadFault) → before ≤ mid → IsFault P mid after fault → IsFault Q before after fault
fault_so go before mid after (Refused refusal) le is = go refusal is
fault_so go before mid after C.Device le more = omega (arith, le, more)
fault_so go before mid after C.OutOfMemory le none = tt

-- a segment that passes its check isn't refused but by the device
pub check_failed : (before after : ℕ) (held : Held) (e : RelocFault) → segments.Refuses before after e (Ok held) → C.IsFailure before after (fault_of_relocations e)
check_failed before after held relocs.BadRecord h = cc
check_failed before after held relocs.SiteOutside h = cc
check_failed before after held relocs.Overlap h = cc
check_failed before after held (relocs.Store stores.Device) h = h
check_failed before after held (relocs.Store stores.Missing) h = absurd h
check_failed before after held (relocs.Store stores.Short) h = absurd h

-- the file of a module by its name
pub stored_there : (files : Files) (m : Module) (file : List ℕ) (t : Tables) → C.IsStoredAs files m file t → (name : List ℕ) → name ≡ m.file → C.file_of files name ≡ Some file
stored_there files m file t is name named = ap (C.file_of files) named ∙ is.stored

-- Records whose names stand in some bytes as in the file point where the file says.
target_alike : (f g : ℕ → List ℕ) (x : pointing.Target) → IfSome (text_of x) (λ name. f name ≡ g name) → target_by f x ≡ target_by g x
target_alike f g (points.Internal segment offset) h = refl
target_alike f g (points.Entry ordinal) h = refl
target_alike f g (points.ByOrdinal reference ordinal) h = refl
target_alike f g (points.ByName reference name) h = ap (loading.Target.ImportName reference) h

record_alike : (f g : ℕ → List ℕ) (r : C.Record) → IfSome (name_in r) (λ name. f name ≡ g name) → record_target f r ≡ record_target g r
record_alike f g (Stored fixup) h = target_alike f g _ h
record_alike f g (Added fixup) h = target_alike f g _ h
record_alike f g System h = refl

pub targets_alike : (f g : ℕ → List ℕ) (records : List C.Record) → All (λ r. IfSome (name_in r) (λ name. f name ≡ g name)) records → map (record_target f) records ≡ map (record_target g) records
targets_alike f g [] all = refl
targets_alike f g (r ∷ rs) all = λ i. record_alike f g r (C.All-head (λ r. IfSome (name_in r) (λ name. f name ≡ g name)) r rs all) i ∷ targets_alike f g rs (C.All-tail (λ r. IfSome (name_in r) (λ name. f name ≡ g name)) r rs all) i

-- Values, one more.

module _ (named : C.Lookup) (m : Module) where
  module _ {V : Type 0} (view : V → List Far) where
    pub segment_more : (targets : List (List C.Target)) (ts : List C.Target) (vs : List V) (v : V) → view v ≡ map (C.value_of named m) ts → map view vs ≡ C.values_for named m targets
        → map view (vs ++ v ∷ []) ≡ C.values_for named m (targets ++ ts ∷ [])
    segment_more targets ts vs v one are =
        C.map_push view vs v ∙ (λ i. are i ++ one i ∷ []) ∙ sym (C.map_push (λ ts. map (C.value_of named m) ts) targets ts)

-- a front of one more
front_by : {X Y : Type 0} (f : X → Y) (x : X) (xs : List X) (place : ℕ) → slice_get xs place ≡ Some x → take (suc place) (map f xs) ≡ take place (map f xs) ++ f x ∷ []
front_by f x [] place at = cc
front_by f x (y ∷ ys) zero at = let same : y ≡ x = cc in ap (λ z. f z ∷ []) same
front_by f x (y ∷ ys) (suc place) at = ap (λ zs. f y ∷ zs) (front_by f x ys place at)

pub front_more : {X Y : Type 0} (f : X → Y) (xs : List X) (place : ℕ) (x : X) → slice_get xs place ≡ Some x → take (place + 1) (map f xs) ≡ take place (map f xs) ++ f x ∷ []
front_more f xs place x at = ap (λ n. take n (map f xs)) (C.add-one place) ∙ front_by f x xs place at

-- Files.

one_of_all : {X : Type 0} (p : X → Bool) (xs : List X) (k : ℕ) (x : X) → list_all p xs ≡ true → slice_get xs k ≡ Some x → p x ≡ true
one_of_all p [] k x all at = cc
one_of_all p (y ∷ ys) zero x all at = let same : y ≡ x = cc in ap p (sym same) ∙ (C.and_parts (p y) _ all).0
one_of_all p (y ∷ ys) (suc k) x all at = one_of_all p ys k x (C.and_parts (p y) _ all).1 at

ok_is : (r : C.Result Held RelocFault) → is_ok r ≡ true → (held : Held) × (r ≡ Ok held)
ok_is (Ok held) e = (held, refl)
ok_is (Err fault) e = cc

mapped : {X Y : Type 0} (f : X → Y) (xs : List X) (k : ℕ) (y : Y) → slice_get (map f xs) k ≡ Some y → (x : X) × (slice_get xs k ≡ Some x) × (y ≡ f x)
mapped f [] k y at = cc
mapped f (x ∷ xs) zero y at = (x, refl, (cc))
mapped f (x ∷ xs) (suc k) y at = mapped f xs k y at

-- What the file of a module says that has these tables.
module _ (files : Files) (m : Module) (read : ModuleFile) (is : IsSaid files m read) (t : Tables) (same : tables_in t ≡ m.tables) where
  abbrev back : (u : Tables) × (C.tables_at (Some is.file) ≡ Ok u) × (read ≡ module_file is.file u)
  back = (C.read_back is.file read is.accepted).1

  one : back.0 ≡ t
  one = C.tables_apart back.0 t (ap (λ (r : ModuleFile). r.tables) (sym back.2) ∙ is.tables ∙ sym same)

  pub stored_as : C.IsStoredAs files m is.file t
  stored_as = record { stored = is.stored; read = back.1 ∙ ap Ok one; tables = same }

  read_is : read ≡ module_file is.file t
  read_is = back.2 ∙ ap (module_file is.file) one

  all_pass : list_all (λ s. is_ok (checked is.file t s)) t.segments ≡ true
  all_pass = sym (C.sound_law is.file t) ∙ ap C.are_sound (sym read_is) ∙ is.sound

  module _ (k : ℕ) (d : C.SegmentData) (at : slice_get read.segments k ≡ Some d) where
    pub found : (s : Segment) × (slice_get t.segments k ≡ Some s) × (d ≡ data_in is.file t s)
    found = mapped (data_in is.file t) t.segments k d (ap (λ (r : ModuleFile). slice_get r.segments k) (sym read_is) ∙ at)

    passed : (held : Held) × (checked is.file t found.0 ≡ Ok held)
    passed = ok_is (checked is.file t found.0) (one_of_all (λ s. is_ok (checked is.file t s)) t.segments k found.0 all_pass found.1)

    pub targets_are : (held : Held) → checked is.file t found.0 ≡ Ok held → C.targets_of d ≡ map (C.target_of is.file t) held.records
    targets_are held e = ap C.targets_of found.2 ∙ ap (λ r. C.unwrap_or (C.targets_in is.file t r) []) e

    pub segment_refused : (before after : ℕ) (e : RelocFault) → segments.Refuses before after e (checked is.file t found.0) → C.IsFailure before after (fault_of_relocations e)
    segment_refused before after e h = check_failed before after passed.0 e (subst (λ r. segments.Refuses before after e r) passed.1 h)

-- as many segments as the module has
many_said : (files : Files) (m : Module) (read : ModuleFile) → IsSaid files m read → length read.segments ≡ length m.tables.segments
many_said files m read is =
    let back = (C.read_back is.file read is.accepted).1 in
    let tables = ap (λ r. r.tables) back.2 in
    ap (λ r. length r.segments) back.2 ∙ length-map back.0.segments (data_in is.file back.0)
    ∙ sym (length-map _ _) ∙ ap (λ u. length u.segments) (sym tables ∙ is.tables)

-- and as the tables that it keeps
pub count_said : (files : Files) (m : Module) (read : ModuleFile) → IsSaid files m read → (t : Tables) → tables_in t ≡ m.tables → (count : ℕ) → count ≡ length t.segments → count ≡ length read.segments
count_said files m read is t kept count counted =
    counted ∙ sym (length-map _ _) ∙ ap (λ u. length u.segments) kept ∙ sym (many_said files m read is)

-- what is at a place has the number after it
pub numbered_there : {X : Type 0} (xs : List X) (place : ℕ) → place < length xs → (x : X) × (slice_get xs place ≡ Some x) × (slice_get xs (place + 1 - 1) ≡ Some x)
numbered_there xs place lt =
    let x = there xs place lt in
    let same : place + 1 - 1 ≡ place = omega arith in
    (x.0, x.1, ap (slice_get xs) same ∙ x.1)
