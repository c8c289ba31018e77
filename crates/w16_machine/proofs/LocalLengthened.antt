-- What the reallocation of a segment leaves of the order of use, and of attributes, where one slot is enough.
use Rattle.w16_machine.proofs
use proofs.Common as C
use proofs.Common.{◌≡◌, ◌≢◌, ℕ, ◌<◌, ◌≤◌, ◌==◌, inl, inr, Bool, true, false, cond, MatchBool, IsSomeAnd, List, [], ◌∷◌, length, take, is_some, Option, Some, None, refl, sym, ap, ◌∙◌, subst, arith, false≢true, Heap, object_at, Handles, OnlyLeave, not, ◌&&◌}
use Rattle.std.specs.Prelude.{◌++◌}
use Rattle.w16_model.specs.declared.TheConstants.{LARGEST_SIZE, REACH, GMEM_MODIFY}
use Rattle.w16_model.specs.Resizes.{Anew, AnswersHandle, Empties, GetsRun, GlobalReAllocs, IsNull, ReAllocsOwn, Resizes, ResizesObject, kind_modified, modified, realloc_options, rehoused, with_run}
use Rattle.w16_model.specs.{declared.Attributes.Attributes, Calls.rounded_size, Handles.slot_of_handle, Handles.slots_at, Handles.slots_for, Outcomes.IsNamed, Owned.owns, Reallocation.KeepsRest, Request.Reallocates}
use Rattle.w16_model.proofs.{Housed.stays, KeptRest.no_more, KeptRest.rest_law}
use Rattle.std.specs.FinMap as finmap

-- A reallocation to a size above 0 resizes its object.
module _ (old : Handles) (handle slot size flags : ℕ) (found : slot_of_handle old handle ≡ Some slot) (keeps : C.has_flag flags GMEM_MODIFY ≡ false) (some : 0 < size) where
  pub resizes : (answer : ℕ) (new : Handles) → ReAllocsOwn old handle size flags answer new → Resizes old slot flags size answer new
  resizes answer new g =
      subst (λ b. MatchBool b (Empties old handle slot flags answer new) (Resizes old slot flags size answer new)) (C.ne_eqb size 0 (λ e. omega (arith, e, some)))
      (subst (λ b. MatchBool b (AnswersHandle old handle (modified old.heap slot (kind_modified flags)) answer new) (MatchBool (size == 0) (Empties old handle slot flags answer new) (Resizes old slot flags size answer new))) keeps
      (subst (λ p. C.MatchOption p (IsNull old answer new)
      (λ slot. MatchBool (C.has_flag flags GMEM_MODIFY)
      (AnswersHandle old handle (modified old.heap slot (kind_modified flags)) answer new)
      (MatchBool (size == 0) (Empties old handle slot flags answer new) (Resizes old slot flags size answer new))))
      found g))

module _ (old new : Handles) (is : C.AreHandles old) (handle slot size flags answer : ℕ) (o : C.Object) (bytes : List ℕ) (n : IsNamed old handle slot o) (has : o.bytes ≡ Some bytes) (keeps : C.has_flag flags GMEM_MODIFY ≡ false)
    (some : 0 < size) (few : rounded_size size ≤ REACH) (short : length bytes ≤ REACH) (answers : answer ≢ 0) (step : GlobalReAllocs old handle size flags answer new) where
  -- what it leaves
  abbrev LeavesOrder : Type 0
  LeavesOrder = OnlyLeave new.heap old.heap.order new.heap.order × ((q : ℕ) → finmap.get new.attributes q ≡ finmap.get old.attributes q)

  module _ (first : ℕ) (gets : GetsRun old slot o (realloc_options flags) (slots_for (rounded_size size)) first) (heap : Heap) (r : Reallocates old.heap slot (rounded_size size) (realloc_options flags) true heap)
      (anew : Anew old slot o.kind first (slots_for (rounded_size size)) heap answer new) where
    here : first ≡ slot
    here = stays old is slot o n.there (rounded_size size) (realloc_options flags) first few gets

    heap_is : new.heap ≡ heap
    heap_is = ap (λ (h : Handles). h.heap) anew.1 ∙ ap (rehoused heap slot) here ∙ turn (slot == slot) _ (C.eq-eqb slot slot refl)
      where
        turn : (b : Bool) (moved : Heap) → b ≡ true → cond b heap moved ≡ heap
        turn true moved e = refl
        turn false moved e = absurd (false≢true e)

    rest : KeepsRest old.heap slot (rounded_size size) o (realloc_options flags) heap
    rest = subst (λ p. IsSomeAnd p (λ o. KeepsRest old.heap slot (rounded_size size) o (realloc_options flags) heap)) n.there (rest_law old.heap heap slot (rounded_size size) (realloc_options flags) is.heap r)

    without_bytes : (q : ℕ) → C.is_member q (take rest.count (C.eligible (C.blocks old.heap) old.heap.order (Some slot))) ≡ true → C.bytes_at heap q ≡ None
    without_bytes q t = turn (object_at old.heap q) (rest.others.discarded q t)
      where
        turn : (p : Option C.Object) → IsSomeAnd p (λ o. (o.kind ≡ C.Discardable) × (o.locks ≡ 0) × (is_some o.bytes ≡ true) × (object_at heap q ≡ Some (record o { bytes = None }))) → C.bytes_at heap q ≡ None
        turn None h = absurd h
        turn (Some o) h = ap C.bytes_in h.3

    order : OnlyLeave heap old.heap.order heap.order
    order = record {
      gone = take rest.count (C.eligible (C.blocks old.heap) old.heap.order (Some slot));
      without_bytes = without_bytes;
      order_is = rest.order ∙ turn (is_some o.bytes) (C.is_discardable o.kind) _ (ap is_some has);
    }
      where
        turn : (b may : Bool) (left : List ℕ) → b ≡ true → left ++ cond {A = List ℕ} (not b && may) (slot ∷ []) [] ≡ left
        turn true may left e = no_more left
        turn false may left e = absurd (false≢true e)

    one_slot : (k : ℕ) → k ≤ REACH → slots_for k ≡ 1
    one_slot k le = omega (arith, le)

    -- the object had one slot
    slots_are : (a : Attributes) → finmap.get old.attributes slot ≡ Some a → a.slots ≡ 1
    slots_are a e =
        sym (ap (λ p. C.unwrap_or (C.option_map (λ (a : Attributes). a.slots) p) 0) e)
        ∙ subst (λ b. C.IfSome b (λ bytes. slots_at old.attributes slot ≡ slots_for (length bytes))) (ap C.bytes_in n.there ∙ has) (is.sized slot) ∙ one_slot (length bytes) short

    attributes : (q : ℕ) → finmap.get new.attributes q ≡ finmap.get old.attributes q
    attributes q = ap (λ (h : Handles). finmap.get h.attributes q) anew.1 ∙ turn (finmap.get old.attributes slot) refl
      where
        run : Option Attributes → C.FinMap C.nat_cmp Attributes
        run p = elim p [ Some a ↦ finmap.insert (finmap.remove old.attributes slot) first (record a { slots = slots_for (rounded_size size) }) | None ↦ old.attributes ]

        turn : (p : Option Attributes) → finmap.get old.attributes slot ≡ p → finmap.get (with_run old.attributes slot first (slots_for (rounded_size size))) q ≡ finmap.get old.attributes q
        turn None e = ap (λ p. finmap.get (run p) q) e
        turn (Some a) e =
            let given : Attributes = record a { slots = slots_for (rounded_size size) } in
            let same : given ≡ a = (let count : slots_for (rounded_size size) ≡ a.slots = one_slot (rounded_size size) few ∙ sym (slots_are a e) in λ i. record a { slots = count i }) in
            ap (λ p. finmap.get (run p) q) e ∙ elim (C.cases_eq q slot) [
              | inl f ↦ C.inserted_here (finmap.remove old.attributes slot) first given q (f ∙ sym here) ∙ ap Some same ∙ sym e ∙ ap (finmap.get old.attributes) (sym f)
              | inr d ↦ C.inserted_other (finmap.remove old.attributes slot) first given q (λ f. d (f ∙ here)) ∙ C.taken_other old.attributes slot q d
            ]

    leaves : LeavesOrder
    leaves = (subst (λ h. OnlyLeave h old.heap.order h.order) (sym heap_is) order, attributes)

  by_answer : (first : ℕ) → GetsRun old slot o (realloc_options flags) (slots_for (rounded_size size)) first → (answered : Bool) (heap : Heap) → Reallocates old.heap slot (rounded_size size) (realloc_options flags) answered heap
      → MatchBool answered (Anew old slot o.kind first (slots_for (rounded_size size)) heap answer new) (IsNull old answer new) → LeavesOrder
  by_answer first gets true heap r anew = leaves first gets heap r anew
  by_answer first gets false heap r null = absurd (answers null.0)

  by_object : ResizesObject old slot flags size answer new o → LeavesOrder
  by_object (inl g) = absurd (answers g.1.0)
  by_object (inr g) = by_answer g.0 g.1 g.2 g.3 g.4 g.5

  by_size : (long : Bool) → MatchBool long (IsNull old answer new) (IsSomeAnd (object_at old.heap slot) (ResizesObject old slot flags size answer new)) → LeavesOrder
  by_size true g = absurd (answers g.0)
  by_size false g = by_object (subst (λ p. IsSomeAnd p (ResizesObject old slot flags size answer new)) n.there g)

  by_owner : (owned : Bool) → MatchBool owned (IsNull old answer new) (ReAllocsOwn old handle size flags answer new) → LeavesOrder
  by_owner true g = absurd (answers g.0)
  by_owner false g = by_size (C.nat_lt LARGEST_SIZE size) (resizes old handle slot size flags n.found keeps some answer new g)

  pub leaves_order : LeavesOrder
  leaves_order = by_owner (owns old handle) step
