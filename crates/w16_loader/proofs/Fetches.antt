-- What a fetch of a segment comes to.
use Rattle.w16_loader.proofs
use proofs.Common as C
use proofs.Common.{◌≡◌, ℕ, ◌-◌, ◌<◌, ◌≤◌, inl, inr, true, false, cond, List, [], length, map, All, Option, Some, None, IsSomeAnd, option_map, slice_get, slice_index_or, Ok, Err, refl, sym, ap, ◌∙◌, subst, arith, lit<, false≢true, slice_get-map, Owned, Handles, owned_at, Held, checked}
use proofs.Common.{naming, FetchFault, Store, NoRoom, IsOwnedSize, Far, ModuleFile, SegmentData, Fills, IsItsFiles, LoadingWorld, data_in, far_of, ne_format, module_file, segment_in, IsSoundIn, IsWritten}
use proofs.Giving.{none_filled}
use Rattle.w16_format.proofs.Relocated.{relocated_law}
use Rattle.w16_format.specs.Tables.{tables_in}
use Rattle.w16_reloc.specs.{Segments.any_offer, Sound.IsSoundSegment}
use Rattle.w16_loader.specs.Fetching.{GivesOwned, GivesSegment, IsRelocatedBy, IsSoundSource}
use Rattle.w16_loading.specs.{Answers.FetchesFrom, Answers.GivesRead, Answers.MayFail, Answers.told, Fewest.FillsFewest}
use Rattle.w16_ne.specs.{declared.segment_table.Segment.Segment, Modules.Tables}
use Rattle.w16_loading.proofs.Fewest.{fill_fewest}
use Rattle.w16_loading.specs.Fetch as fetching
use Rattle.w16_reloc.specs.declared.value.Far as words
use Rattle.w16_loading.specs.File as loading

-- What is given to an object that a module owns.
module _ (Known : Type 0) (IsRead : List ℕ → Type 0) (before after : ℕ) (old : Handles) (slot : ℕ) where
  abbrev Gives : Option FetchFault → Handles → Type 0
  Gives fault new = GivesOwned Known IsRead before after old slot fault new

  -- its bytes can't be read
  pub unread : (fault : FetchFault) → C.is_of_read fault ≡ true → (C.is_of_device fault ≡ true → before < after) → (Known → fault ≡ Store) → Gives (Some fault) old
  unread Store may rose exact = record { given = ((refl, (λ s. rose refl), exact), refl); rest = refl }
  unread NoRoom may rose exact = absurd (false≢true may)
  unread C.Damaged may rose exact = record { given = ((refl, (λ s. rose (ap C.is_of_device s)), exact), refl); rest = refl }

  module _ (heap : C.IsHeap old.heap) where
    -- there is no room for them
    pub full : C.is_owned old slot ≡ true → C.bytes_at old.heap slot ≡ None → C.Revives old slot false old → Gives (Some NoRoom) old
    full owned absent refused = by (owned_at old slot) refl owned
      where
        by : (p : Option Owned) → owned_at old slot ≡ p → C.is_some p ≡ true → Gives (Some NoRoom) old
        by None at e = absurd (false≢true e)
        by (Some w) at e =
            let zeros = C.repeated w.size 0 in
            let sized : IsSomeAnd (owned_at old slot) (λ (w : Owned). length zeros ≡ w.size) = subst (λ p. IsSomeAnd p (λ (w : Owned). length zeros ≡ w.size)) (sym at) (C.length-repeated w.size 0) in
            let none : Fills old.heap slot zeros false old.heap = none_filled old slot absent refused zeros sized (C.All-repeated w.size 0 (lit< tt)) in
            record { given = (zeros, sized, (none, fill_fewest old.heap slot zeros false old.heap heap none)); rest = refl }

    pub filled : (IsBytes : List ℕ → Type 0) → ((bytes : List ℕ) → IsBytes bytes → IsSomeAnd (owned_at old slot) (λ (w : Owned). length bytes ≡ w.size) → IsRead bytes) → (new : Handles) → C.GivesBytes old slot IsBytes new → Gives None new
    filled IsBytes are new g = record {
      given = (g.bytes, g.sized, are g.bytes g.are g.sized, (g.filled, fill_fewest old.heap slot g.bytes true new.heap heap g.filled));
      rest = g.rest;
    }

-- bytes of an object's size
as_long : (bytes : List ℕ) (n : ℕ) (p : Option Owned) → IsSomeAnd p (λ w. length bytes ≡ w.size) → IsSomeAnd p (λ w. w.size ≡ n) → length bytes ≡ n
as_long bytes n None h k = absurd h
as_long bytes n (Some w) h k = h ∙ k

-- a segment by its number
within : (t : Tables) (number : ℕ) → 0 < number → number ≤ length t.segments → (s : Segment) × (slice_get t.segments (number - 1) ≡ Some s)
within t number first last = elim (C.slice_get_cases t.segments (number - 1)).1 [
  | inl some ↦ (some.0, some.2)
  | inr none ↦ absurd (omega (arith, none.0, first, last))
]

-- what was written over as many bytes as the segment has
pub relocated : (t : Tables) (source : List ℕ) (records : List C.Record) (values : List words.Far) (bytes : List ℕ) (n : ℕ) → IsWritten source records values bytes
    → (table : List ℕ) × IsSoundSegment (any_offer (length t.segments) (length t.references)) source table (length values) records → length source ≤ n → length bytes ≡ n → IsRelocatedBy t values bytes
relocated t source records values bytes n are (table, sound) room long =
    let fits : length source ≤ length bytes = omega (arith, room, long) in
    record { source = source; table = table; records = records; sound = sound; fits = fits; image = are.image _ sound.sound.1 fits; words = are.words }

-- Over a file that says what it said at load.

module _ (file : List ℕ) (t : Tables) (number : ℕ) (values : List words.Far) (sound : IsSoundIn file t number values) where
  abbrev s : Segment
  s = sound.segment

  abbrev bytes : List ℕ
  bytes = C.image_in file t s values

  -- what the file gives of it
  pub data_there : slice_get (map (data_in file t) t.segments) (number - 1) ≡ Some (data_in file t s)
  data_there = slice_get-map (data_in file t) t.segments (number - 1) ∙ ap (option_map (data_in file t)) sound.there

  -- what was written over as many bytes as it has is its image
  image : (written : List ℕ) → length written ≡ s.size → IsWritten sound.held.bytes sound.held.records values written → bytes ≡ written
  image written long is = relocated.image (map far_of values) written (subst (λ vs. C.IsImage sound.held.bytes sound.held.records vs (naming sound.held.bytes sound.held.records) written) (sym (C.words_same values is.words)) over) long
    where
      relocated : C.IsRelocated file t s sound.held
      relocated = C.is_relocated file t s sound.held sound.passed

      room : length sound.held.bytes ≤ length written
      room = subst (λ bs. length bs ≤ length written) (sym relocated.same) (subst (λ n. length (C.data_of file s) ≤ n) (sym long) (C.has_room file t (number - 1) s sound.tables sound.there))

      over : C.IsImage sound.held.bytes sound.held.records values (naming sound.held.bytes sound.held.records) written
      over = is.image (naming sound.held.bytes sound.held.records) relocated.sound room

  -- so are the bytes of an object of its size
  pub written_image : (old : Handles) (slot : ℕ) → IsSomeAnd (owned_at old slot) (λ (w : Owned). w.size ≡ s.size) → (read : List ℕ) (records : List C.Record) → read ≡ sound.held.bytes → records ≡ sound.held.records
      → (written : List ℕ) → IsWritten read records values written → IsSomeAnd (owned_at old slot) (λ (w : Owned). length written ≡ w.size) → written ≡ bytes
  written_image old slot sized read records same_bytes same_records written are is_long = sym (image written (as_long written s.size (owned_at old slot) is_long sized)
      (subst (λ rs. IsWritten sound.held.bytes rs values written) same_records (subst (λ bs. IsWritten bs records values written) same_bytes are)))

-- A segment of a module that is as this file says it is sound in the file.
module _ (file : List ℕ) (t : Tables) (m : C.Module) (its : IsItsFiles m (module_file file t)) (number : ℕ) (values : List words.Far) (bound : slice_index_or m.values (number - 1) [] ≡ map far_of values) where
  -- with a record for each value
  passed : (s : Segment) → slice_get t.segments (number - 1) ≡ Some s → (held : Held) × (checked file t s ≡ Ok held) × (length held.records ≡ length values)
  passed s there = turn (checked file t s) refl (slice_get m.values (number - 1)) refl
      (subst (λ p. C.MatchOption p (Unit {0}) (λ (d : SegmentData). IsSomeAnd (slice_get m.values (number - 1)) (λ vs. IsSomeAnd d.targets (λ targets. length vs ≡ length targets))))
      (slice_get-map (data_in file t) t.segments (number - 1) ∙ ap (option_map (data_in file t)) there)
      (C.AllZip-left (λ (d : SegmentData) (vs : List Far). IsSomeAnd d.targets (λ targets. length vs ≡ length targets)) (map (data_in file t) t.segments) m.values its.values (number - 1)))
    where
      turn : (r : C.Result Held C.RelocFault) → checked file t s ≡ r → (v : Option (List Far)) → slice_get m.values (number - 1) ≡ v
          → IsSomeAnd v (λ vs. IsSomeAnd (C.targets_in file t r) (λ targets. length vs ≡ length targets)) → (held : Held) × (checked file t s ≡ Ok held) × (length held.records ≡ length values)
      turn r e None f h = absurd h
      turn (Err fault) e (Some vs) f h = absurd h
      turn (Ok held) e (Some vs) f h =
          let same : vs ≡ map far_of values = sym (C.get_or_from_slice_get m.values (number - 1) vs [] f) ∙ bound in
          (held, e, sym (C.length-map held.records (C.target_of file t)) ∙ sym h ∙ ap length same ∙ C.length-map values far_of)

  pub sound_in : All (λ b. b < 256) file → C.tables_at (Some file) ≡ Ok t → 0 < number → number ≤ length t.segments → IsSoundIn file t number values
  sound_in are_bytes tables first last =
      let found = within t number first last in let p = passed found.0 found.1 in record { are_bytes = are_bytes; tables = tables; segment = found.0; there = found.1; held = p.0; passed = p.1; many = p.2 }

-- In a world of its files.

module _ (honest : Type 0) (world : LoadingWorld) (slot number : ℕ) (name : List ℕ) (t : Tables) (values : List words.Far) (is : C.IsFetchable honest world slot number name t values) (last : number ≤ length t.segments) where
  abbrev m : C.Module
  m = is.m

  found : (s : Segment) × (slice_get t.segments (number - 1) ≡ Some s)
  found = within t number is.segment.has.0 last

  -- its object is of the segment's size
  owned_size : (s : Segment) → slice_get t.segments (number - 1) ≡ Some s → IsSomeAnd (owned_at world.handles slot) (λ (w : Owned). w.size ≡ s.size)
  owned_size s there = subst (λ p. IsSomeAnd p (λ (w : Owned). w.size ≡ s.size)) (sym object.owned) refl
    where
      object : C.IsObjectOf world slot (segment_in s).kind (segment_in s).size (segment_in s).is_code
      object = subst (λ p. IsSomeAnd p (λ g. C.IsObjectOf world slot g.kind g.size g.is_code))
          (ap (λ (u : loading.Tables). slice_get u.segments (number - 1)) is.tables ∙ slice_get-map segment_in t.segments (number - 1) ∙ ap (option_map segment_in) there)
          (C.of_segment world is.sound slot is.handle number m is.segment)

  -- what it is given over any store
  given : (bytes : List ℕ) → IsOwnedSize world slot bytes → ((s : Segment) → slice_get t.segments (number - 1) ≡ Some s → length bytes ≡ s.size → IsRelocatedBy t values bytes) → fetching.IsRead ne_format world slot bytes
  given bytes sized are = inl (
    is.handle,
    number,
    m,
    is.segment,
    r.source,
    r.table,
    ap (λ (u : loading.Tables). ne_format.relocated u r.source r.table (slice_index_or m.values (number - 1) []) (length bytes)) is.tables
        ∙ ap (λ vs. ne_format.relocated (tables_in t) r.source r.table vs (length bytes)) is.source.bound ∙ relocated_law t r.source r.table r.records values bytes r.sound r.words r.fits r.image,
  )
    where
      r : IsRelocatedBy t values bytes
      r = are found.0 found.1 (as_long bytes found.0.size (owned_at world.handles slot) sized (owned_size found.0 found.1))

  module _ (h : honest) where
    stored : (file : List ℕ) × C.IsFileOf world m file t
    stored = C.stored_law world is.handle m t (is.of_files h) is.segment.loaded is.tables

    abbrev file : List ℕ
    file = stored.0

    read_is : C.read_of ne_format world m ≡ Some (module_file file t)
    read_is =
        ap (λ (p : Option (List ℕ)). elim p as (λ _. Option ModuleFile) [ None ↦ None | Some bytes ↦ elim (ne_format.says bytes) as (λ _. Option ModuleFile) [ Ok read ↦ Some read | Err _ ↦ None ] ]) stored.1.stored
        ∙ ap (λ (r : C.OrRefused ModuleFile). elim r as (λ _. Option ModuleFile) [ Ok read ↦ Some read | Err _ ↦ None ]) (C.accepted file t stored.1.bytes stored.1.tables)

    its : IsItsFiles m (module_file file t)
    its = subst (λ p. IsSomeAnd p (IsItsFiles m)) read_is ((is.of_files h).modules is.handle m is.segment.loaded)

    sound : IsSoundIn file t number values
    sound = sound_in file t m its number values is.source.bound stored.1.bytes stored.1.tables is.segment.has.0 last

    by_number : {X : Type 0} (xs : List X) → C.numbered xs number ≡ slice_get xs (number - 1)
    by_number xs = let some : 0 < number = is.segment.has.0 in ap (λ b. cond b None (slice_get xs (number - 1))) (C.ne_eqb number 0 (λ e. omega (arith, some, e)))

    bytes_are : C.segment_bytes ne_format world m number ≡ Some (C.image_in file t sound.segment values)
    bytes_are =
        ap (λ (p : Option ModuleFile). elim p as (λ _. Option (List ℕ)) [ None ↦ None | Some r ↦ option_map (λ (d : SegmentData). d.image (slice_index_or m.values (number - 1) [])) (C.numbered r.segments number) ]) read_is
        ∙ ap (option_map (λ (d : SegmentData). d.image (slice_index_or m.values (number - 1) []))) (by_number (map (data_in file t) t.segments) ∙ data_there file t number values sound)
        ∙ ap (λ vs. Some ((data_in file t sound.segment).image vs)) is.source.bound

    pub source : IsSoundSource honest world.files name t number values world.handles slot
    source = record { truly = h; file = file; stored = ap (C.file_of world.files) (sym is.source.named) ∙ stored.1.stored; sound = sound; sized = owned_size sound.segment sound.there }

-- What gives an object its image is a fetch.
module _ (honest : Type 0) (Known : Type 0) (known : honest → Known) (IsRead : List ℕ → Type 0) (world : LoadingWorld) (slot : ℕ)
    (are : (bytes : List ℕ) → IsOwnedSize world slot bytes → IsRead bytes → fetching.IsRead ne_format world slot bytes × (honest → fetching.IsImage ne_format world slot bytes)) (before after : ℕ) where
  pub owned_fetch : (fault : Option FetchFault) (new : Handles) → GivesOwned Known IsRead before after world.handles slot fault new
      → FetchesFrom FillsFewest (told honest ne_format world.files before after) world slot fault (record world { handles = new })
  owned_fetch fault new f = record { given = turn fault f.given; rest = ap (λ (h : Handles). record world { handles = h }) f.rest }
    where
      turn : (fault : Option FetchFault) → GivesRead FillsFewest (MayFail Known before after) (IsOwnedSize world slot) IsRead world.handles.heap slot fault new.heap
          → GivesRead FillsFewest (MayFail honest before after) (IsOwnedSize world slot) (λ bytes. fetching.IsRead ne_format world slot bytes × (honest → fetching.IsImage ne_format world slot bytes)) world.handles.heap slot fault new.heap
      turn None g = (g.0, g.1, are g.0 g.1 g.2, g.3)
      turn (Some NoRoom) g = g
      turn (Some Store) g = ((g.0.0, g.0.1, λ h. g.0.2 (known h)), g.1)
      turn (Some C.Damaged) g = ((g.0.0, g.0.1, λ h. g.0.2 (known h)), g.1)

pub fetches : (honest : Type 0) (world : LoadingWorld) (slot number : ℕ) (name : List ℕ) (t : Tables) (values : List words.Far) → number ≤ length t.segments → C.IsFetchable honest world slot number name t values → (before after : ℕ) (fault : Option FetchFault) (new : Handles)
    → GivesSegment honest world.files name t number values before after world.handles slot fault new → FetchesFrom FillsFewest (told honest ne_format world.files before after) world slot fault (record world { handles = new })
unfolding sound source
fetches honest world slot number name t values last is before after fault new =
    owned_fetch honest _ (source honest world slot number name t values is last) _ world slot
    (λ bytes sized read. (
      given honest world slot number name t values is last bytes sized read.0,
      λ h. inl (is.handle, number, is.m, is.segment, bytes_are honest world slot number name t values is last h ∙ ap Some (sym (read.1 (source honest world slot number name t values is last h)))),
    )) before after fault new
