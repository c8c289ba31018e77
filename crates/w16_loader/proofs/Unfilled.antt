-- Objects of segments that have no bytes yet, and one of them that a load gives its bytes.
use Rattle.w16_loader.proofs
use proofs.Common as C
use proofs.Common.{◌≡◌, ◌≢◌, ℕ, ◌-◌, ◌/◌, ◌<◌, ◌≤◌, Bool, true, false, cond, ◌||◌, ◌==◌, List, [], ◌∷◌, length, map, All, Option, Some, None, IsSomeAnd, is_some, slice_get, Result, Ok, Err, inl, inr, refl, sym, ap, ◌∙◌, subst, arith, OnOk, OnErr, false≢true, Kind, Fixed, Owned, Handles}
use proofs.Common.{handle_of, Heap, Object, is_fixed, object_at, owned_at, LacksBytes, FetchFault, Store, ModuleFile, Segment, InTurn, Module, module_file, segment_in, tables_in, Files, fault_in, image_in, Part, IsUnfilled}
use proofs.{Fetches.data_there, Fetches.sound_in, Fillings.one_turn, Fillings.zipped_at, Giving.some_at}
use Rattle.w16_loader.specs.Fetching.{GivesOwned, IsSoundSource}
use Rattle.w16_loading.specs.{Answers.GivesRead, Answers.MayFail, Fewest.FillsFewest}
use Rattle.std.specs.FinMap as finmap
use Rattle.w16_ne.specs.declared.segment_table.Segment as ne
use Rattle.w16_ne.specs.Modules as ne_modules
use Rattle.w16_reloc.specs.declared.value.Far as words
use Rattle.w16_loading.specs.File as loading

-- Such an object by its handle.

pub slot_in : (kind : Kind) (slot handle : ℕ) → handle ≡ handle_of kind slot → handle / 8 ≡ slot
slot_in Fixed slot handle e = omega (arith, e)
slot_in C.Moveable slot handle e = omega (arith, e)
slot_in C.Discardable slot handle e = omega (arith, e)

module _ (handles : Handles) (slot : ℕ) (s : Segment) (is : IsUnfilled handles slot s) where
  object : (o : Object) × (object_at handles.heap slot ≡ Some o) × ((o.kind ≡ s.kind) × (o.bytes ≡ None))
  object = some_at (λ (o : Object). (o.kind ≡ s.kind) × (o.bytes ≡ None)) (object_at handles.heap slot) is.object

  owner : (w : Owned) × (owned_at handles slot ≡ Some w) × (w.size ≡ s.size)
  owner = some_at (λ (w : Owned). w.size ≡ s.size) (owned_at handles slot) is.owned

  lacks_at : (handle : ℕ) → handle ≡ handle_of s.kind (handle / 8) → handle / 8 ≡ slot → LacksBytes handles handle
  lacks_at handle named at = record {
    named = ap (λ (p : Option Object). elim p as (λ _. Option ℕ) [ Some o ↦ cond (handle == handle_of o.kind (handle / 8)) (Some (handle / 8)) None | None ↦ None ]) (ap (object_at handles.heap) at ∙ object.1)
        ∙ ap (λ b. cond {A = Option ℕ} b (Some (handle / 8)) None) (C.eq-eqb handle (handle_of object.0.kind (handle / 8)) (named ∙ ap (λ k. handle_of k (handle / 8)) (sym object.2.0)));
    owned = ap (λ q. is_some (owned_at handles q)) at ∙ ap is_some owner.1;
    without_bytes = ap (C.bytes_at handles.heap) at ∙ ap (λ (p : Option Object). elim p as (λ _. Option (List ℕ)) [ Some o ↦ o.bytes | None ↦ None ]) object.1 ∙ object.2.1;
  }

  pub lacks : (handle : ℕ) → handle ≡ handle_of s.kind slot → LacksBytes handles handle
  lacks handle named = let at : handle / 8 ≡ slot = slot_in s.kind slot handle named in lacks_at handle (named ∙ ap (handle_of s.kind) (sym at)) at

  -- it stays so while another gets its bytes
  kept_so : (new : Handles) → C.IsKeptOrDiscarded handles.heap new.heap slot → new ≡ record handles { heap = new.heap } → IsUnfilled new slot s
  kept_so new (inl same) rest = record {
    object = subst (λ (p : Option Object). IsSomeAnd p (λ o. (o.kind ≡ s.kind) × (o.bytes ≡ None))) (sym same) is.object;
    owned = subst (λ (p : Option Owned). IsSomeAnd p (λ w. w.size ≡ s.size)) (sym (ap (λ (h : Handles). owned_at h slot) rest)) is.owned;
  }
  kept_so new (inr lost) rest = absurd (turn (object_at handles.heap slot) is.object lost)
    where
      turn : (p : Option Object) → IsSomeAnd p (λ o. (o.kind ≡ s.kind) × (o.bytes ≡ None)) → IsSomeAnd p (λ o. (o.kind ≡ C.Discardable) × (o.locks ≡ 0) × (is_some o.bytes ≡ true) × (object_at new.heap slot ≡ Some (record o { bytes = None }))) → ⊥
      turn None h k = h
      turn (Some o) h k = false≢true (sym (ap is_some h.1) ∙ k.2)

-- A fetch of one, as it answers.
module _ {A : Type 0} {Known : Type 0} {IsRead : List ℕ → Type 0} {before after : ℕ} (old new : C.Global) (handle : ℕ) (result : Result A FetchFault)
    (given : LacksBytes old.handles handle → GivesOwned Known IsRead before after old.handles (handle / 8) (fault_in result) new.handles) where
  -- what keeps objects that it isn't of
  pub keeps : C.IsHeap old.handles.heap → OnErr result (new ≡ old) → OnOk result (LacksBytes old.handles handle) → (q : ℕ) (s : Segment) → q ≢ handle / 8 → IsUnfilled old.handles q s → IsUnfilled new.handles q s
  keeps heap same lacks q s other is = turn result same lacks given
    where
      turn : (r : Result A FetchFault) → OnErr r (new ≡ old) → OnOk r (LacksBytes old.handles handle) → (LacksBytes old.handles handle → GivesOwned Known IsRead before after old.handles (handle / 8) (fault_in r) new.handles) → IsUnfilled new.handles q s
      turn (Err fault) same lacks given = subst (λ (g : C.Global). IsUnfilled g.handles q s) (sym same) is
      turn (Ok done) same lacks given =
          let g = given lacks in
          kept_so old.handles q s is new.handles (C.filled_other old.handles.heap (handle / 8) g.given.0 new.handles.heap g.given.3.0 heap q other) g.rest

  -- bytes that are read for it, those that were held of it where it is known what is there
  pub gives_held : (honest : Type 0) (slot : ℕ) (held : List ℕ) (s : Segment) → handle ≡ handle_of s.kind slot → IsUnfilled old.handles slot s → length held ≡ s.size → (honest → Known) → (honest → (bytes : List ℕ) → IsRead bytes → bytes ≡ held)
      → C.gives_over honest before after old.handles.heap slot held (fault_in result) new.handles.heap
  gives_held honest slot held s named is long known again = turn (fault_in result) (subst (λ q. GivesOwned Known IsRead before after old.handles q (fault_in result) new.handles) (slot_in s.kind slot handle named) (given (lacks old.handles slot s is handle named))).given
    where
      sized : (bytes : List ℕ) (p : Option Owned) → IsSomeAnd p (λ w. length bytes ≡ w.size) → IsSomeAnd p (λ w. w.size ≡ s.size) → length bytes ≡ length held
      sized bytes None h k = absurd h
      sized bytes (Some w) h k = h ∙ k ∙ sym long

      turn : (fault : Option FetchFault) → GivesRead FillsFewest (MayFail Known before after) (λ bytes. IsSomeAnd (owned_at old.handles slot) (λ (w : Owned). length bytes ≡ w.size)) IsRead old.handles.heap slot fault new.handles.heap
          → C.gives_over honest before after old.handles.heap slot held fault new.handles.heap
      turn None g = (g.0, sized g.0 (owned_at old.handles slot) g.1 is.owned, (λ h. again h g.0 g.2), g.3.0)
      turn (Some C.NoRoom) g = (g.0, sized g.0 (owned_at old.handles slot) g.1 is.owned, g.2.0)
      turn (Some Store) g = ((g.0.0, g.0.1, λ h. g.0.2 (known h)), g.1)
      turn (Some C.Damaged) g = ((g.0.0, g.0.1, λ h. g.0.2 (known h)), g.1)

-- A segment of a load.

-- a slot that isn't a segment's isn't in its handle
pub other_slot : (m : Module) (number : ℕ) (slots : List ℕ) → slots ≡ m.slots → (slot : ℕ) → Some slot ≡ slice_get slots (number - 1) → (kind : Kind) (handle : ℕ) → handle ≡ handle_of kind slot → (q : ℕ) → slice_get m.slots (number - 1) ≢ Some q → q ≢ handle / 8
other_slot m number slots are slot at kind handle named q out e = out (ap (λ qs. slice_get qs (number - 1)) (sym are) ∙ sym at ∙ ap Some (sym (slot_in kind slot handle named) ∙ sym e))

-- as many as its file has
pub many_segments : (t : ne_modules.Tables) (m : Module) → tables_in t ≡ m.tables → length m.tables.segments ≡ length t.segments
many_segments t m told = ap (λ u. length u.segments) (sym told) ∙ C.length-map _ segment_in

module _ (m : Module) (read : ModuleFile) (number : ℕ) (part : Part m read (number - 1)) where
  -- its image has the size of its object
  pub part_long : C.IsReadAs m read → length (part.its_data.image part.its_values) ≡ part.segment.size
  part_long is =
      let fits : C.IsSegmentData part.segment part.its_data = zipped_at C.IsSegmentData read.tables.segments read.segments is.is_file.segments (number - 1) part.segment part.its_data
      (ap (λ (t : loading.Tables). slice_get t.segments (number - 1)) is.tables ∙ part.segment_at) part.data_at in
      (fits.image part.its_values).0

  -- it is the segment of its number
  pub same_segment : (t : ne_modules.Tables) (s : ne.Segment) → tables_in t ≡ m.tables → slice_get t.segments (number - 1) ≡ Some s → part.segment ≡ segment_in s
  same_segment t s told there =
      let same : Some part.segment ≡ Some (segment_in s) = sym part.segment_at ∙ ap (λ (u : loading.Tables). slice_get u.segments (number - 1)) (sym told) ∙ C.slice_get-map segment_in t.segments (number - 1) ∙ ap (C.option_map segment_in) there in cc

  module _ (t : ne_modules.Tables) (s : ne.Segment) (told : tables_in t ≡ m.tables) (there : slice_get t.segments (number - 1) ≡ Some s) where
    pub is_filled_by : (tested test : Bool) → tested ≡ (is_fixed (segment_in s).kind || (segment_in s).is_preload) → tested ≡ test → (is_fixed part.segment.kind || part.segment.is_preload) ≡ test
    is_filled_by tested test is same = ap (λ (x : Segment). is_fixed x.kind || x.is_preload) (same_segment t s told there) ∙ sym is ∙ same

    -- the handle of its object
    pub is_named : (slots : List ℕ) → slots ≡ m.slots → (slot : ℕ) → Some slot ≡ slice_get slots (number - 1) → (kind : Kind) → kind ≡ (segment_in s).kind → (handle : ℕ) → handle ≡ handle_of kind slot → handle ≡ handle_of part.segment.kind part.slot
    is_named slots are slot at kind its handle named =
        let here : Some slot ≡ Some part.slot = at ∙ ap (λ qs. slice_get qs (number - 1)) are ∙ part.slot_at in
        let same : slot ≡ part.slot = cc in
        let of : kind ≡ part.segment.kind = its ∙ ap (λ (x : Segment). x.kind) (sym (same_segment t s told there)) in
        named ∙ (λ i. handle_of (of i) (same i))

  pub no_slot : (slots : List ℕ) → slots ≡ m.slots → None ≡ slice_get slots (number - 1) → ⊥
  no_slot slots are at = let never : None ≡ Some part.slot = at ∙ ap (λ qs. slice_get qs (number - 1)) are ∙ part.slot_at in cc

  module _ (place : ℕ) where
    -- one that gets no bytes
    pub unfilled : (gives : C.Giving) (old : Heap) → (is_fixed part.segment.kind || part.segment.is_preload) ≡ false → InTurn gives old (C.fills_of_part place part) None old
    unfilled gives old test = subst (λ b. InTurn gives old (cond {A = List C.Filling} b (record { place = place; slot = part.slot; bytes = part.its_data.image part.its_values } ∷ []) []) None old) (sym test) (refl, refl)

    pub filled : {A : Type 0} (gives : C.Giving) (old new : Heap) (result : Result A FetchFault) → (is_fixed part.segment.kind || part.segment.is_preload) ≡ true
        → gives old part.slot (part.its_data.image part.its_values) (fault_in result) new → InTurn gives old (C.fills_of_part place part) (C.failure_at place result) new
    filled gives old new result test given = subst (λ b. InTurn gives old (cond {A = List C.Filling} b (record { place = place; slot = part.slot; bytes = part.its_data.image part.its_values } ∷ []) []) (C.failure_at place result) new) (sym test)
        (one_turn gives old new place part.slot (part.its_data.image part.its_values) result given)

-- One of a module whose file says what it said when it was loaded.
module _ (files : Files) (m : Module) (read : ModuleFile) (said : C.IsSaid files m read) (its : C.IsItsFiles m read) (t : ne_modules.Tables) (told : tables_in t ≡ m.tables) (number : ℕ) (first : 0 < number) (last : number ≤ length t.segments)
    (name : List ℕ) (values : List words.Far) (source : C.IsSourceOf m number name values) where
  back : All (λ b. b < 256) said.file × ((u : ne_modules.Tables) × (C.tables_at (Some said.file) ≡ Ok u) × (read ≡ module_file said.file u))
  back = C.read_back said.file read said.accepted

  same_tables : back.1.0 ≡ t
  same_tables = C.tables_apart back.1.0 t (ap (λ (r : ModuleFile). r.tables) (sym back.1.2) ∙ said.tables ∙ sym told)

  read_is : read ≡ module_file said.file t
  read_is = back.1.2 ∙ ap (module_file said.file) same_tables

  pub sound : C.IsSoundIn said.file t number values
  sound = sound_in said.file t m (subst (C.IsItsFiles m) read_is its) number values source.bound back.0 (back.1.1 ∙ ap Ok same_tables) first last

  pub stored : C.file_of files name ≡ Some said.file
  stored = ap (C.file_of files) (sym source.named) ∙ said.stored

  module _ (part : Part m read (number - 1)) where
    its_image : image_in said.file t sound.segment values ≡ part.its_data.image part.its_values
    its_image =
        let data_same : Some (C.data_in said.file t sound.segment) ≡ Some part.its_data = sym (data_there said.file t number values sound) ∙ ap (λ (r : ModuleFile). slice_get r.segments (number - 1)) (sym read_is) ∙ part.data_at in
        let its : C.data_in said.file t sound.segment ≡ part.its_data = cc in
        let values_same : map C.far_of values ≡ part.its_values = sym source.bound ∙ C.get_or_from_slice_get m.values (number - 1) part.its_values [] part.values_at in
        λ i. (its i).image (values_same i)

    -- where its file has it
    pub source_image : (honest : Type 0) → honest → (old : Handles) (handle : ℕ) → handle ≡ handle_of part.segment.kind part.slot → IsUnfilled old part.slot part.segment → (n : ℕ) → n ≡ number
        → (k : IsSoundSource honest files name t n values old (handle / 8)) × (image_in k.file t k.sound.segment values ≡ part.its_data.image part.its_values)
    source_image honest h old handle named is n same =
        let size : part.segment.size ≡ sound.segment.size = ap (λ (s : Segment). s.size) (same_segment m read number part t sound.segment told sound.there) in
        let sized : IsSomeAnd (owned_at old (handle / 8)) (λ (w : Owned). w.size ≡ sound.segment.size) =
        subst (λ n. IsSomeAnd (owned_at old (handle / 8)) (λ (w : Owned). w.size ≡ n)) size (subst (λ q. IsSomeAnd (owned_at old q) (λ (w : Owned). w.size ≡ part.segment.size)) (sym (slot_in part.segment.kind part.slot handle named)) is.owned) in
        subst (λ k. (x : IsSoundSource honest files name t k values old (handle / 8)) × (image_in x.file t x.sound.segment values ≡ part.its_data.image part.its_values)) (sym same)
        (record { truly = h; file = said.file; stored = stored; sound = sound; sized = sized }, its_image)
