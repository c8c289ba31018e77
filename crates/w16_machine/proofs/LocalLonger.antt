-- What a growth leaves of the world.
use Rattle.w16_machine.proofs
use proofs.Common as C
use proofs.Common.{◌≡◌, ◌≢◌, ℕ, ◌<◌, ◌≤◌, ◌⊎◌, inl, inr, Bool, true, false, cond, false≢true, List, length, take, Option, Some, None, IsSomeAnd, is_some, refl, sym, ap, ◌∙◌, subst, arith, cases_eq, Object, bytes_at, object_at, bytes_in, Handles, Table, World, LocalHeap, current_heap}
use proofs.Common.{left_in, IsLengthened, IsObjectKept, IsRewritten, growth_flags, local_options, segment_bytes}
use proofs.LocalFacts.{IsThere, current_there, local_here}
use proofs.LocalGrown.{IsGrownObject, grown_object, laid_bounds, plain_flags, rounded_few}
use proofs.{LocalLengthened.leaves_order, LocalLeft.left_is, LocalLeft.left_over}
use Rattle.std.proofs.Common.{take-take}
use Rattle.w16_model.specs.{declared.TheConstants.GMEM_NODISCARD, CallLaws.IsKeptOrDiscarded, CallLaws.may_move_own, Calls.Answer.Word, Handles.slot_of_handle, Outcomes.Call.ReAllocs}
use Rattle.w16_model.proofs.{Bystanders.bystanders_law, Bystanders.pinned_law, CallLaws.slots_law}
use Rattle.std.specs.FinMap as finmap

-- the flags of a growth don't let the segment move where it is fixed or locked
pub held_flags : (options : C.RoomOptions) (handle size : ℕ) → may_move_own (ReAllocs handle size (growth_flags options)) ≡ false
held_flags options handle size = turn options.discard
  where
    turn : (b : Bool) → may_move_own (ReAllocs handle size (cond b 0 GMEM_NODISCARD)) ≡ false
    turn true = refl
    turn false = refl

module _ (old new : World) (command : C.Command C.OfLocals) (is : C.AreLocalHeaps old) (r : C.KeepsRestLonger old command new) where
  abbrev at : LocalHeap
  at = r.at

  abbrev l : C.Lengthens old at (local_options r.flags) r.size
  l = r.lengthens

  abbrev mine : LocalHeap
  mine = C.longer at r.size l.bytes

  abbrev next : World
  next = C.with_longer old l.handles mine

  there : IsThere old at
  there = current_there old at r.current

  grown : IsGrownObject old at l.handles r.size l.bytes
  grown = grown_object old is.handles at there (local_options r.flags) r.size r.longer_size l

  below : take at.table.lo l.bytes ≡ take at.table.lo at.bytes
  below = sym (take-take at.table.lo (length at.bytes) l.bytes (low_inside)) ∙ ap (take at.table.lo) grown.start
    where
      low_inside : at.table.lo ≤ length at.bytes
      low_inside = omega (arith, there.inside, laid_bounds at.table.lo at.table.hi at.table.blocks (local_here old is at there).0.sound.table.laid)

  -- another segment
  module _ (slot : ℕ) (d : slot ≢ at.slot) where
    same_object : object_at new.loading.handles.heap slot ≡ object_at l.handles.heap slot
    same_object = turn (r.rest.objects slot)
      where
        of_current : (p : Option LocalHeap) → current_heap next ≡ p → (P : LocalHeap → Type 0) → IsSomeAnd p (λ h. (h.slot ≡ slot) × P h) → ⊥
        of_current None e P h = h
        of_current (Some c) e P h = let same : mine ≡ c = (let both : ◌≡◌ {A = Option LocalHeap} (Some mine) (Some c) = sym r.still ∙ e in cc) in d (sym h.0 ∙ sym (ap (λ (h : LocalHeap). h.slot) same))

        turn : IsObjectKept next new slot → object_at new.loading.handles.heap slot ≡ object_at l.handles.heap slot
        turn (inl same) = same
        turn (inr h) = absurd (of_current (current_heap next) refl (λ c. IsSomeAnd (object_at l.handles.heap slot) (λ before. IsSomeAnd (object_at new.loading.handles.heap slot) (IsRewritten c before))) h)

    other_object : is_some (object_at old.loading.handles.heap slot) ≡ true → IsKeptOrDiscarded old.loading.handles.heap new.loading.handles.heap slot
    other_object some = as_new (bystanders_law old.loading.handles l.handles (ReAllocs l.handle r.size (growth_flags (local_options r.flags))) (Word l.answer) slot is.handles l.reallocated some (λ named. d (same_slot named)))
      where
        same_slot : slot_of_handle old.loading.handles l.handle ≡ Some slot → slot ≡ at.slot
        same_slot named = let both : ◌≡◌ {A = Option ℕ} (Some slot) (Some at.slot) = sym named ∙ l.named in cc

        as_new : IsKeptOrDiscarded old.loading.handles.heap l.handles.heap slot → IsKeptOrDiscarded old.loading.handles.heap new.loading.handles.heap slot
        as_new kept = subst (λ (p : Option Object). (p ≡ object_at old.loading.handles.heap slot)
            ⊎ IsSomeAnd (object_at old.loading.handles.heap slot) (λ o. (o.kind ≡ C.Discardable) × (o.locks ≡ 0) × (is_some o.bytes ≡ true) × (p ≡ Some (record o { bytes = None })))) (sym same_object) kept

    other_heap : finmap.get new.heaps slot ≡ finmap.get (left_in new.loading.handles.heap old.heaps) slot
    other_heap = turn (r.rest.heaps slot)
      where
        was : finmap.get next.heaps slot ≡ finmap.get (left_in new.loading.handles.heap old.heaps) slot
        was = C.inserted_other (left_in l.handles.heap old.heaps) at.slot mine.table slot d ∙ left_is l.handles.heap old.heaps slot
            ∙ ap (left_over (finmap.get old.heaps slot)) (ap bytes_in (sym same_object)) ∙ sym (left_is new.loading.handles.heap old.heaps slot)

        of_current : (p : Option LocalHeap) → current_heap next ≡ p → (P : LocalHeap → Type 0) → IsSomeAnd p (λ h. (h.slot ≡ slot) × P h) → ⊥
        of_current None e P h = h
        of_current (Some c) e P h = let same : mine ≡ c = (let both : ◌≡◌ {A = Option LocalHeap} (Some mine) (Some c) = sym r.still ∙ e in cc) in d (sym h.0 ∙ sym (ap (λ (h : LocalHeap). h.slot) same))

        turn : C.IsHeapKept next new slot → finmap.get new.heaps slot ≡ finmap.get (left_in new.loading.handles.heap old.heaps) slot
        turn (inl same) = same ∙ was
        turn (inr (inl none)) = r.begins_none slot none.0 ∙ sym none.0 ∙ was
        turn (inr (inr h)) = absurd (of_current (current_heap next) refl (λ c. IsSomeAnd (finmap.get new.heaps slot) (λ t. (t.lo ≡ c.table.lo) × (t.hi ≡ c.table.hi))) h)

  -- the segment
  of_mine : (slot : ℕ) (P : LocalHeap → Type 0) → IsSomeAnd (current_heap next) (λ h. (h.slot ≡ slot) × P h) → P mine
  of_mine slot P h = (subst (λ p. IsSomeAnd p (λ h. (h.slot ≡ slot) × P h)) r.still h).1

  lengthened : IsSomeAnd (object_at new.loading.handles.heap at.slot) (IsLengthened at grown.before)
  lengthened = turn (r.rest.objects at.slot)
    where
      with_bytes : (bytes : List ℕ) → (length bytes ≡ length l.bytes) × (take at.table.lo bytes ≡ take at.table.lo l.bytes) → (length at.bytes < length bytes) × (take at.table.lo bytes ≡ take at.table.lo at.bytes)
      with_bytes bytes h = (omega (arith, h.0, grown.long, r.longer_size.more), h.1 ∙ below)

      as_grown : IsLengthened at grown.before grown.after
      as_grown = record { kind = grown.kind; locks = grown.locks; had = grown.had; has = subst (λ b. IsSomeAnd b (λ bytes. (length at.bytes < length bytes) × (take at.table.lo bytes ≡ take at.table.lo at.bytes))) (sym grown.has) (with_bytes l.bytes (refl, refl)) }

      in_bytes : (b : Option (List ℕ)) → IsSomeAnd b (λ bytes. (length bytes ≡ length l.bytes) × C.IsSameOutside at.table.lo r.size l.bytes bytes) → IsSomeAnd b (λ bytes. (length at.bytes < length bytes) × (take at.table.lo bytes ≡ take at.table.lo at.bytes))
      in_bytes None h = absurd h
      in_bytes (Some bytes) h = with_bytes bytes (h.0, h.1.below)

      in_object : (p : Option Object) → IsSomeAnd p (IsRewritten mine grown.after) → IsSomeAnd p (IsLengthened at grown.before)
      in_object None h = absurd h
      in_object (Some p) h = record { kind = h.kind ∙ grown.kind; locks = h.locks ∙ grown.locks; had = grown.had; has = in_bytes p.bytes h.has }

      turn : IsObjectKept next new at.slot → IsSomeAnd (object_at new.loading.handles.heap at.slot) (IsLengthened at grown.before)
      turn (inl same) = subst (λ p. IsSomeAnd p (IsLengthened at grown.before)) (sym (same ∙ grown.now)) as_grown
      turn (inr h) = in_object (object_at new.loading.handles.heap at.slot)
          (subst (λ p. IsSomeAnd p (λ before. IsSomeAnd (object_at new.loading.handles.heap at.slot) (IsRewritten mine before))) grown.now
          (of_mine at.slot (λ c. IsSomeAnd (object_at l.handles.heap at.slot) (λ before. IsSomeAnd (object_at new.loading.handles.heap at.slot) (IsRewritten c before))) h))

  -- it has the size still
  sized : IsSomeAnd (segment_bytes new at.slot) (λ bytes. length bytes ≡ r.size)
  sized = turn (r.rest.objects at.slot)
    where
      in_bytes : (b : Option (List ℕ)) → IsSomeAnd b (λ bytes. (length bytes ≡ length l.bytes) × C.IsSameOutside at.table.lo r.size l.bytes bytes) → IsSomeAnd b (λ bytes. length bytes ≡ r.size)
      in_bytes None h = absurd h
      in_bytes (Some bytes) h = h.0 ∙ grown.long

      in_object : (p : Option Object) → IsSomeAnd p (IsRewritten mine grown.after) → IsSomeAnd (bytes_in p) (λ bytes. length bytes ≡ r.size)
      in_object None h = absurd h
      in_object (Some p) h = in_bytes p.bytes h.has

      turn : IsObjectKept next new at.slot → IsSomeAnd (segment_bytes new at.slot) (λ bytes. length bytes ≡ r.size)
      turn (inl same) = subst (λ b. IsSomeAnd b (λ bytes. length bytes ≡ r.size)) (sym (ap bytes_in same ∙ l.has)) grown.long
      turn (inr h) = in_object (object_at new.loading.handles.heap at.slot)
          (subst (λ p. IsSomeAnd p (λ before. IsSomeAnd (object_at new.loading.handles.heap at.slot) (IsRewritten mine before))) grown.now
          (of_mine at.slot (λ c. IsSomeAnd (object_at l.handles.heap at.slot) (λ before. IsSomeAnd (object_at new.loading.handles.heap at.slot) (IsRewritten c before))) h))

  -- its heap ends there
  abbrev EndsLater : Table → Type 0
  EndsLater t = (t.lo ≡ at.table.lo) × (at.table.hi < t.hi) × IsSomeAnd (segment_bytes new at.slot) (λ bytes. t.hi ≡ length bytes)

  ends_later : (t : Table) → (t.lo ≡ at.table.lo) × (t.hi ≡ r.size) → EndsLater t
  ends_later t h = (h.0, subst (λ n. at.table.hi < n) (sym h.1) (omega (arith, there.inside, r.longer_size.more)), turn (segment_bytes new at.slot) sized)
    where
      turn : (b : Option (List ℕ)) → IsSomeAnd b (λ bytes. length bytes ≡ r.size) → IsSomeAnd b (λ bytes. t.hi ≡ length bytes)
      turn None s = absurd s
      turn (Some bytes) s = h.1 ∙ sym s

  later : IsSomeAnd (finmap.get new.heaps at.slot) EndsLater
  later = turn (r.rest.heaps at.slot)
    where
      is_there : finmap.get next.heaps at.slot ≡ Some mine.table
      is_there = C.inserted_here (left_in l.handles.heap old.heaps) at.slot mine.table at.slot refl

      never : ◌≡◌ {A = Option Table} (Some mine.table) None → ⊥
      never e = cc

      in_table : (p : Option Table) → IsSomeAnd p (λ t. (t.lo ≡ at.table.lo) × (t.hi ≡ r.size)) → IsSomeAnd p EndsLater
      in_table None h = absurd h
      in_table (Some t) h = ends_later t h

      turn : C.IsHeapKept next new at.slot → IsSomeAnd (finmap.get new.heaps at.slot) EndsLater
      turn (inl same) = in_table (finmap.get new.heaps at.slot) (subst (λ p. IsSomeAnd p (λ t. (t.lo ≡ at.table.lo) × (t.hi ≡ r.size))) (sym (same ∙ is_there)) (refl, refl))
      turn (inr (inl none)) = absurd (never (sym is_there ∙ none.0))
      turn (inr (inr h)) = in_table (finmap.get new.heaps at.slot) (of_mine at.slot (λ c. IsSomeAnd (finmap.get new.heaps at.slot) (λ t. (t.lo ≡ c.table.lo) × (t.hi ≡ c.table.hi))) h)

  pub left_by_growth : (slot : ℕ) → is_some (object_at old.loading.handles.heap slot) ≡ true → C.IsLeftByGrowth old new slot
  left_by_growth slot some = elim (cases_eq slot at.slot) [
    | inl e ↦ inr (subst (λ p. IsSomeAnd p (λ h. (h.slot ≡ slot) × IsSomeAnd (object_at old.loading.handles.heap slot) (λ before. IsSomeAnd (object_at new.loading.handles.heap slot) (IsLengthened h before)))) (sym r.current) (
      sym e,
      subst (λ s. IsSomeAnd (object_at old.loading.handles.heap s) (λ before. IsSomeAnd (object_at new.loading.handles.heap s) (IsLengthened at before))) (sym e)
          (subst (λ p. IsSomeAnd p (λ before. IsSomeAnd (object_at new.loading.handles.heap at.slot) (IsLengthened at before))) (sym grown.was) lengthened),
    ))
    | inr d ↦ inl (other_object slot d some)
  ]

  heap_left : (slot : ℕ) → C.IsHeapLeft old new slot
  heap_left slot = elim (cases_eq slot at.slot) [
    | inl e ↦ inr (subst (λ p. IsSomeAnd p (λ h. (h.slot ≡ slot) × IsSomeAnd (finmap.get new.heaps slot) (λ t. (t.lo ≡ h.table.lo) × (h.table.hi < t.hi) × IsSomeAnd (segment_bytes new slot) (λ bytes. t.hi ≡ length bytes)))) (sym r.current)
        (sym e, subst (λ s. IsSomeAnd (finmap.get new.heaps s) (λ t. (t.lo ≡ at.table.lo) × (at.table.hi < t.hi) × IsSomeAnd (segment_bytes new s) (λ bytes. t.hi ≡ length bytes))) (sym e) later))
    | inr d ↦ inl (other_heap slot d)
  ]

  -- the order of use, and attributes
  order_left : C.OnlyLeave l.handles.heap old.loading.handles.heap.order l.handles.heap.order × ((q : ℕ) → finmap.get l.handles.attributes q ≡ finmap.get old.loading.handles.attributes q)
  order_left = leaves_order old.loading.handles l.handles is.handles l.handle at.slot r.size (growth_flags (local_options r.flags)) l.answer grown.before at.bytes (record { found = l.named; there = grown.was }) grown.had (plain_flags (local_options r.flags))
      (omega (arith, r.longer_size.more)) (rounded_few r.size r.longer_size.most) (omega (arith, r.longer_size.more, r.longer_size.most)) l.answered l.reallocated

  -- what lost its bytes has none still
  still_without : (q : ℕ) → bytes_at l.handles.heap q ≡ None → bytes_at new.loading.handles.heap q ≡ None
  still_without q none = elim (cases_eq q at.slot) [
    | inl e ↦ absurd (never (sym l.has ∙ ap (bytes_at l.handles.heap) (sym e) ∙ none))
    | inr d ↦ ap bytes_in (same_object q d) ∙ none
  ]
    where
      never : ◌≡◌ {A = Option (List ℕ)} (Some l.bytes) None → ⊥
      never e = cc

  order_left_there : C.OnlyLeave new.loading.handles.heap old.loading.handles.heap.order new.loading.handles.heap.order
  order_left_there = record {
    gone = order_left.0.gone;
    without_bytes = λ q t. still_without q (order_left.0.without_bytes q t);
    order_is = ap (λ (h : Handles). h.heap.order) r.rest.handles ∙ order_left.0.order_is;
  }

  pub leaves_longer : C.LeavesLonger old new
  leaves_longer = record {
    loading = r.rest.loading;
    slots = ap (λ (h : Handles). h.slots) r.rest.handles ∙ (slots_law old.loading.handles l.handles (ReAllocs l.handle r.size (growth_flags (local_options r.flags))) (Word l.answer) is.handles l.reallocated).0;
    attributes = λ slot. ap (λ (h : Handles). finmap.get h.attributes slot) r.rest.handles ∙ order_left.1 slot;
    order = order_left_there;
    moved = ap (λ (h : Handles). h.moved) r.rest.handles;
    objects = left_by_growth;
    pinned = λ slot pinned. subst (λ (m : C.FinMap C.nat_cmp ℕ). C.IfSome (finmap.get old.loading.handles.heap.places slot) (λ a. finmap.get m slot ≡ Some a)) (sym (ap (λ (h : Handles). h.heap.places) r.rest.handles))
        (pinned_law old.loading.handles l.handles (ReAllocs l.handle r.size (growth_flags (local_options r.flags))) (Word l.answer) slot is.handles l.reallocated pinned (λ may. absurd (false≢true (sym (held_flags (local_options r.flags) l.handle r.size) ∙ may))));
    heaps = heap_left;
  }
