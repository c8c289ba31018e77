-- A local heap that has grown with its segment: what both are then, and the world with them.
use Rattle.w16_machine.proofs
use proofs.Common as C
use proofs.Common.{◌≡◌, ℕ, ◌+◌, ◌/◌, ◌≤◌, ◌==◌, inl, inr, Bool, true, false, cond, IsSomeAnd, List, [], ◌∷◌, length, take, Option, Some, None, refl, sym, ap, ◌∙◌, subst, arith, Object, AreResized, bytes_at, object_at, ending, Handles, AreHandles, slot_of_selector, Table, IsSound, World}
use proofs.Common.{LocalHeap, IsLocalIn, heap_of, left_in, local_in, current_heap, IsLongerSize, growth_flags, ◌≢◌}
use proofs.LocalFacts.{IsThere, local_here, local_there, there_local, object_of}
use proofs.{LocalLeft.IsLocalAt, LocalLeft.heaps_after, LocalNamed.named_in}
use Rattle.std.specs.Prelude.{drop}
use Rattle.std.proofs.{Common.take-take, lemmas.List.drop_all}
use Rattle.w16_model.specs.declared.TheConstants.{REACH, GMEM_MODIFY, GMEM_NODISCARD}
use Rattle.w16_model.specs.{declared.Block.Block, declared.RoomOptions.RoomOptions, Calls.rounded_size, CallLaws.HasNewSize, Gap.IsLaid, Gap.block_end, Handles.handle_of, Handles.selector_of, Handles.slot_of_handle, Reallocation.IsResized, Resizes.GlobalReAllocs, Resizes.realloc_options}
use Rattle.w16_model.proofs.{KeptHandles.moved_handles, Naming.names_law, NewSize.size_law, Ranges.range_law, ResizedHandles.resize_law, ResizedHandles.one_slot_law}
use Rattle.w16_loading.specs.Modules.{with_handles}

laid_later : (lo hi end : ℕ) (bs : List Block) → IsLaid lo hi bs → hi ≤ end → IsLaid lo end bs
laid_later lo hi end [] laid le = omega (arith, laid, le)
laid_later lo hi end (x ∷ xs) laid le = (laid.0, laid.1, laid_later (block_end x) hi end xs laid.2 le)

pub laid_bounds : (lo hi : ℕ) (bs : List Block) → IsLaid lo hi bs → lo ≤ hi
laid_bounds lo hi [] laid = laid
laid_bounds lo hi (x ∷ xs) laid = let rest = laid_bounds (block_end x) hi xs laid.2 in omega (arith, laid.0, laid.1, rest)

-- a table that ends later is sound
later_sound : (t : Table) (end : ℕ) → IsSound t → t.hi ≤ end → IsSound (record t { hi = end })
later_sound t end s le = record {
  table = record { laid = laid_later _ _ end _ s.table.laid le; ids = s.table.ids; holds = s.table.holds };
  grained = s.grained;
  low_grained = s.low_grained;
  in_order = s.in_order;
  no_repeats = s.no_repeats;
  counted = s.counted;
}

pub later_local : (t : Table) (end : ℕ) → C.IsLocalTable t → t.hi ≤ end → end ≤ C.LAST_LOCAL_END → C.IsLocalTable (record t { hi = end })
later_local t end is le most = record { sound = later_sound t end is.sound le; grain = is.grain; entries = is.entries; low = is.low; high = most }

-- the flags of a growth change no kind
pub plain_flags : (options : RoomOptions) → C.has_flag (growth_flags options) GMEM_MODIFY ≡ false
plain_flags options = turn _
  where
    turn : (b : Bool) → C.has_flag (cond b 0 GMEM_NODISCARD) GMEM_MODIFY ≡ false
    turn true = refl
    turn false = refl

-- one slot is enough for the size
pub rounded_few : (size : ℕ) → size ≤ C.LAST_LOCAL_END → rounded_size size ≤ REACH
rounded_few size most = omega (arith, most)

-- a handle's slot is told by it alone
handle_slot : (handles : Handles) (handle slot : ℕ) → slot_of_handle handles handle ≡ Some slot → slot ≡ handle / 8
handle_slot handles handle slot = turn _
  where
    by_kind : (b : Bool) → ◌≡◌ {A = Option ℕ} (cond b (Some (handle / 8)) None) (Some slot) → slot ≡ handle / 8
    by_kind true e = let same : handle / 8 ≡ slot = cc in sym same
    by_kind false e = cc

    turn : (p : Option Object) → ◌≡◌ {A = Option ℕ} (elim p [ Some o ↦ cond (handle == handle_of o.kind (handle / 8)) (Some (handle / 8)) None | None ↦ None ]) (Some slot) → slot ≡ handle / 8
    turn None e = cc
    turn (Some o) e = by_kind _ e

-- the current heap is in the segment that DS selects
selected : (w : World) (at : LocalHeap) → current_heap w ≡ Some at → slot_of_selector w.loading.handles w.ds ≡ Some at.slot
selected w at e = turn _ refl e
  where
    turn : (s : Option ℕ) → slot_of_selector w.loading.handles w.ds ≡ s → ◌≡◌ {A = Option LocalHeap} (elim s [ None ↦ None | Some slot ↦ local_in w slot ]) (Some at) → slot_of_selector w.loading.handles w.ds ≡ Some at.slot
    turn None s e = cc
    turn (Some slot) s e = s ∙ ap Some (sym (local_there w _ at e).1)

select : (w : World) (slot : ℕ) → slot_of_selector w.loading.handles w.ds ≡ Some slot → current_heap w ≡ local_in w slot
select w slot e = ap (λ s. elim s as (λ _. Option _) [ None ↦ None | Some slot ↦ local_in w slot ]) e

-- What has become of the segment: it has its kind and its locks, and the size, and its old bytes first.
pub record IsGrownObject (old : World) (at : LocalHeap) (handles : Handles) (size : ℕ) (bytes : List ℕ) : Type 0 where
  pub before : Object
  pub was : object_at old.loading.handles.heap at.slot ≡ Some before
  pub had : before.bytes ≡ Some at.bytes
  pub after : Object
  pub now : object_at handles.heap at.slot ≡ Some after
  pub has : after.bytes ≡ Some bytes
  pub kind : after.kind ≡ before.kind
  pub locks : after.locks ≡ before.locks
  pub long : length bytes ≡ size
  pub start : take (length at.bytes) bytes ≡ at.bytes

module _ (old : World) (are : AreHandles old.loading.handles) (at : LocalHeap) (there : IsThere old at) (options : RoomOptions) (size : ℕ) (is_size : IsLongerSize at size) where
  rounded : rounded_size size ≡ size
  rounded = omega (arith, is_size.whole.1)

  abbrev zero : Bool
  zero = (realloc_options (growth_flags options)).zero

  -- the handle is the same one, so the segment is in its slot, at its new size
  module _ (handle : ℕ) (named : slot_of_handle old.loading.handles handle ≡ Some at.slot) (answer : ℕ) (answered : answer ≢ 0) (handles : Handles) (reallocated : GlobalReAllocs old.loading.handles handle size (growth_flags options) answer handles) where
    same_handle : answer ≡ handle
    same_handle = one_slot_law old.loading.handles handles handle size (growth_flags options) answer are reallocated (rounded_few size is_size.most) answered

    in_slot : (s : Option ℕ) (P : ℕ → Type 0) → slot_of_handle handles answer ≡ s → IsSomeAnd s P → P at.slot
    in_slot None P e h = absurd h
    in_slot (Some slot) P e h = subst P (handle_slot handles answer slot e ∙ ap (λ h. h / 8) same_handle ∙ sym (handle_slot old.loading.handles handle at.slot named)) h

    segment_resized : (o : Object) → object_at old.loading.handles.heap at.slot ≡ Some o → IsSomeAnd (object_at handles.heap at.slot) (IsResized zero (rounded_size size) o)
    segment_resized o was =
        let anew : HasNewSize handles answer zero (rounded_size size) o =
        size_law old.loading.handles handles handle at.slot size (growth_flags options) o answer are (record { found = named; there = was }) (plain_flags options) (omega (arith, is_size.more)) answered reallocated in
        in_slot (slot_of_handle handles answer) (λ slot. IsSomeAnd (object_at handles.heap slot) (IsResized zero (rounded_size size) o)) refl anew

    -- which has bytes then
    pub bytes_of : (bytes : List ℕ) × (bytes_at handles.heap at.slot ≡ Some bytes)
    bytes_of =
        let o : (o : Object) × (object_at old.loading.handles.heap at.slot ≡ Some o) × (o.bytes ≡ Some at.bytes) = object_of old.loading.handles.heap at.slot at.bytes there.bytes in
        of_object o.0 (object_at handles.heap at.slot) refl (segment_resized o.0 o.1)
      where
        of_bytes : (before : List ℕ) (b : Option (List ℕ)) → bytes_at handles.heap at.slot ≡ b → IsSomeAnd b (AreResized zero (rounded_size size) before) → (bytes : List ℕ) × (bytes_at handles.heap at.slot ≡ Some bytes)
        of_bytes before None e h = absurd h
        of_bytes before (Some bytes) e h = (bytes, e)

        of_object : (o : Object) (p : Option Object) → object_at handles.heap at.slot ≡ p → IsSomeAnd p (IsResized zero (rounded_size size) o) → (bytes : List ℕ) × (bytes_at handles.heap at.slot ≡ Some bytes)
        of_object o None e h = absurd h
        of_object o (Some p) e h = of_bytes (C.unwrap_or o.bytes []) p.bytes (ap C.bytes_in e) h.bytes

module _ (old : World) (are : AreHandles old.loading.handles) (at : LocalHeap) (there : IsThere old at) (options : RoomOptions) (size : ℕ) (is_size : IsLongerSize at size) (l : C.Lengthens old at options size) where
  abbrev any : Bool
  any = (realloc_options (growth_flags options)).zero

  pub grown_object : IsGrownObject old at l.handles size l.bytes
  grown_object = of_objects (object_of old.loading.handles.heap at.slot at.bytes there.bytes) (object_of l.handles.heap at.slot l.bytes l.has)
    where
      resized_bytes : (b : Option (List ℕ)) → b ≡ Some l.bytes → IsSomeAnd b (AreResized any (rounded_size size) at.bytes) → AreResized any (rounded_size size) at.bytes l.bytes
      resized_bytes b e h = subst (λ b. IsSomeAnd b (AreResized any (rounded_size size) at.bytes)) e h

      of_objects : (o : Object) × (object_at old.loading.handles.heap at.slot ≡ Some o) × (o.bytes ≡ Some at.bytes) → (p : Object) × (object_at l.handles.heap at.slot ≡ Some p) × (p.bytes ≡ Some l.bytes) → IsGrownObject old at l.handles size l.bytes
      of_objects o p =
          let here : IsSomeAnd (object_at l.handles.heap at.slot) (IsResized any (rounded_size size) o.0) =
          segment_resized old are at there options size is_size l.handle l.named l.answer l.answered l.handles l.reallocated o.0 o.1 in
          let r : IsResized any (rounded_size size) o.0 p.0 = subst (λ q. IsSomeAnd q (IsResized any (rounded_size size) o.0)) p.1 here in
          let b : AreResized any (rounded_size size) at.bytes l.bytes = resized_bytes p.0.bytes p.2 (subst (λ q. IsSomeAnd p.0.bytes (AreResized any (rounded_size size) (C.unwrap_or q []))) o.2 r.bytes) in
          record {
            before = o.0;
            was = o.1;
            had = o.2;
            after = p.0;
            now = p.1;
            has = p.2;
            kind = r.kind;
            locks = r.locks;
            long = b.long ∙ rounded old are at there options size is_size;
            start = b.same ∙ C.take_all (rounded_size size) at.bytes (omega (arith, rounded old are at there options size is_size, is_size.more));
          }

  -- its local heap's objects are those that it had, with their bytes and in their places, and the heap ends later
  pub same_later : IsSound at.table → heap_of (C.longer at size l.bytes) ≡ ending (heap_of at) size
  same_later sound = ap (λ heap. ending heap size) ((range_law at.table at.table.hi (length at.bytes + length l.bytes) at.bytes l.bytes sound.table (record { below = below; above = above })).0 (omega arith))
    where
      below : take at.table.hi l.bytes ≡ take at.table.hi at.bytes
      below = sym (take-take at.table.hi (length at.bytes) l.bytes there.inside) ∙ ap (take at.table.hi) grown_object.start

      above : drop (length at.bytes + length l.bytes) l.bytes ≡ drop (length at.bytes + length l.bytes) at.bytes
      above = drop_all (length at.bytes + length l.bytes) l.bytes (omega arith) ∙ sym (drop_all (length at.bytes + length l.bytes) at.bytes (omega arith))

module _ (old : World) (is : C.AreLocalHeaps old) (at : LocalHeap) (there : IsThere old at) (options : RoomOptions) (size : ℕ) (is_size : IsLongerSize at size) (l : C.Lengthens old at options size) where
  grown : IsGrownObject old at l.handles size l.bytes
  grown = grown_object old is.handles at there options size is_size l

  -- The heap that it is, and the world.
  abbrev mine : LocalHeap
  mine = C.longer at size l.bytes

  abbrev next : World
  next = C.with_longer old l.handles mine

  abbrev left : World
  left = record old { loading = with_handles old.loading (record l.handles { moved = old.loading.handles.moved }); heaps = left_in l.handles.heap old.heaps }

  fits : at.table.hi ≤ size
  fits = omega (arith, (local_here old is at there).1, is_size.more)

  inside : size ≤ length l.bytes
  inside = omega (arith, grown.long)

  pub longer_is : heap_of mine ≡ ending (heap_of at) size
  longer_is = same_later old is.handles at there options size is_size l (local_here old is at there).0.sound

  grown_in : IsLocalIn mine.table l.bytes
  grown_in =
      let here : IsLocalIn at.table at.bytes = local_here old is at there in
      (later_local at.table size here.0 fits is_size.most, inside, named_in at.table here.0.sound.table at.bytes l.bytes here.1 (omega (arith, fits, inside)) here.2)

  pub grown_handles : AreHandles next.loading.handles
  grown_handles = moved_handles l.handles (resize_law old.loading.handles l.handles l.handle size (growth_flags options) l.answer is.handles l.reallocated) old.loading.handles.moved

  pub grown_world : C.AreLocalHeaps next
  grown_world = record {
    handles = grown_handles;
    heaps = λ q. elim (C.cases_eq q at.slot) [
      | inl e ↦ subst (λ t. IsLocalAt t (bytes_at l.handles.heap q)) (sym (C.inserted_here (left_in l.handles.heap old.heaps) at.slot mine.table q e))
          (subst (λ k. IsSomeAnd (bytes_at l.handles.heap k) (IsLocalIn mine.table)) (sym e) (subst (λ b. IsSomeAnd b (IsLocalIn mine.table)) (sym l.has) grown_in))
      | inr d ↦ subst (λ t. IsLocalAt t (bytes_at l.handles.heap q)) (sym (C.inserted_other (left_in l.handles.heap old.heaps) at.slot mine.table q d)) ((heaps_after old left is grown_handles refl).heaps q)
    ];
  }

  pub grown_there : IsThere next mine
  grown_there = record { table = C.inserted_here (left_in l.handles.heap old.heaps) at.slot mine.table at.slot refl; bytes = l.has; inside = inside }

  -- it is the current heap still
  pub grown_current : current_heap old ≡ Some at → current_heap next ≡ Some mine
  grown_current c = select next at.slot ((names_law next.loading.handles old.ds at.slot).1.1 (subst (λ p. IsSomeAnd p (λ _. old.ds ≡ selector_of at.slot)) (sym grown.now) named)) ∙ there_local next mine grown_there
    where
      named : old.ds ≡ selector_of at.slot
      named = subst (λ p. IsSomeAnd p (λ _. old.ds ≡ selector_of at.slot)) grown.was ((names_law old.loading.handles old.ds at.slot).1.0 (selected old at c))
