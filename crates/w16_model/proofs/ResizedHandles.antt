-- Each call keeps what holds of handles; GlobalReAlloc leaves the heap where it is NULL, and discards as few as it can.
use Rattle.w16_model.proofs
use proofs.Common as C
use proofs.KeptHandles as M
use proofs.Common.{◌≡◌, ◌≢◌, ℕ, ◌<◌, ◌≤◌, ◌⊎◌, inl, inr, Bool, true, false, ◌||◌, ◌==◌, MatchBool, IfOk, IsSomeAnd, List, Option, Some, None, Result, Ok, Err, is_some, refl, sym, ap, ◌∙◌, subst, arith, false≢true, cases_eq, Kind, Refusal, LARGEST_SIZE}
use proofs.Common.{REACH, GMEM_MODIFY, Heap, Object, IsHeap, object_at, is_fixed, absent, moved_bytes, Call, Resized, Calls, ReAllocs, after_modify, Handles, AreHandles, IsSized, slots_at, slots_for, slot_of_handle, handle_of, Answer, has_flag, rounded_size, Word, Dword, ChangesKind}
use proofs.Common.{ReallocatesFewest, realloc_options, kind_modified, modified, IsNull, AnswersHandle, Empties, Anew, Resizes}
use proofs.Housed.{stays, anew_handles}
use proofs.KeptHandles.{moved_handles, other_handles}
use proofs.KeptHeaps.{bytes_in, newest_heap, oldest_heap, ordered}
use proofs.CallOutcomes.{outcome, reallocates}
use proofs.KindChanges.{kind_law, kind_heap_law, modify_none}
use proofs.Absence.{absent_heap, discard_heap_law, discard_absent}
use proofs.{Fewest.some_handle, Naming.names_law, Runs.some_slots, Reallocations.fewest_law}
use Rattle.w16_model.specs.{declared.Owned.Owned}
use Rattle.w16_model.specs.declared.Refusal.TheVariants as refusals

-- The handles that are left.
module _ (old : Handles) (is : AreHandles old) where
  -- with another kind
  pub kind_handles : (slot : ℕ) (kind : Kind) (o : Object) (new : Heap) → object_at old.heap slot ≡ Some o → IsHeap new → ChangesKind old.heap slot o kind new → AreHandles (record old { heap = new })
  kind_handles slot kind o new there sound c = other_handles old is new sound c.range.0 c.range.2 (λ q. elim (cases_eq q slot) [
    | inl e ↦ ap is_some (ap (object_at new) e ∙ c.object) ∙ sym (ap is_some (ap (object_at old.heap) e ∙ there))
    | inr d ↦ ap is_some (c.others q d)
  ]) (λ q. elim (cases_eq q slot) [
    | inl e ↦ subst (IsSized (slots_at old.attributes q)) (ap bytes_in (ap (object_at old.heap) e ∙ there) ∙ sym (ap bytes_in (ap (object_at new) e ∙ c.object))) (is.sized q)
    | inr d ↦ subst (IsSized (slots_at old.attributes q)) (sym (ap bytes_in (c.others q d))) (is.sized q)
  ])

  -- a change of kind, or none
  pub modified_handles : (slot : ℕ) (kind : Kind) → AreHandles (record old { heap = modified old.heap slot kind })
  modified_handles slot kind = turn (object_at old.heap slot) refl (kind_law old.heap slot kind is.heap)
    where
      refused : (refusal : Refusal) → after_modify old.heap slot kind ≡ Err refusal → AreHandles (record old { heap = modified old.heap slot kind })
      refused refusal e = subst (λ (h : Heap). AreHandles (record old { heap = h })) (sym (ap (λ (r : Result Heap Refusal). elim r [ Ok new ↦ new | Err _ ↦ old.heap ]) e)) is

      changed : (o : Object) → object_at old.heap slot ≡ Some o → (new : Heap) × (after_modify old.heap slot kind ≡ Ok new) × ChangesKind old.heap slot o kind new → AreHandles (record old { heap = modified old.heap slot kind })
      changed o there c =
          let sound : IsHeap c.0 = subst (λ (r : Result Heap Refusal). IfOk r IsHeap) c.1 (kind_heap_law old.heap slot kind is.heap) in
          subst (λ (h : Heap). AreHandles (record old { heap = h })) (sym (ap (λ (r : Result Heap Refusal). elim r [ Ok new ↦ new | Err _ ↦ old.heap ]) c.1)) (kind_handles slot kind o c.0 there sound c.2)

      turn : (p : Option Object) → object_at old.heap slot ≡ p → C.IfSome p (λ o.
          ((is_fixed o.kind || is_fixed kind) ≡ true → after_modify old.heap slot kind ≡ Err refusals.Fixed)
          × ((is_fixed o.kind || is_fixed kind) ≡ false → (new : Heap) × (after_modify old.heap slot kind ≡ Ok new) × ChangesKind old.heap slot o kind new)) → AreHandles (record old { heap = modified old.heap slot kind })
      turn None there law = refused refusals.Absent (modify_none old.heap slot kind there)
      turn (Some o) there law = elim (C.cases_Bool (is_fixed o.kind || is_fixed kind)) [ inl t ↦ refused refusals.Fixed (law.0 t) | inr f ↦ changed o there (law.1 f) ]

  -- a discard
  absent_handles : (slot : ℕ) (o : Object) → object_at old.heap slot ≡ Some o → o.locks ≡ 0 → AreHandles (record old { heap = absent old.heap slot })
  absent_handles slot o there unlocked = other_handles old is (absent old.heap slot) (absent_heap old.heap is.heap slot o there unlocked) refl refl
      (λ q. M.same_updated old.heap.objects slot (λ (o : Object). record o { bytes = None }) q) (λ q. M.absent_sized old.heap slot q (slots_at old.attributes q) (is.sized q))

  pub discarded_handles : (slot : ℕ) (heap : Heap) → C.after_discard old.heap slot ≡ Ok heap → AreHandles (record old { heap = heap })
  discarded_handles slot heap done =
      let same : heap ≡ absent old.heap slot = discard_absent old.heap heap slot done in
      let sound : IsHeap heap = subst (λ (r : Result Heap Refusal). IfOk r IsHeap) done (discard_heap_law old.heap slot is.heap) in
      other_handles old is heap sound (ap (λ (h : Heap). h.lo) same) (ap (λ (h : Heap). h.grain) same)
      (λ q. ap (λ (h : Heap). is_some (object_at h q)) same ∙ M.same_updated old.heap.objects slot (λ (o : Object). record o { bytes = None }) q)
      (λ q. M.sized_is refl (ap (λ (h : Heap). C.bytes_at h q) same) (M.absent_sized old.heap slot q (slots_at old.attributes q) (is.sized q)))

-- a new object has as many slots as it needs
new_sized : (zeroed : Bool) (n : ℕ) (b : Option (List ℕ)) → IsSomeAnd b (C.AreNew zeroed n) → IsSized (slots_for n) b
new_sized zeroed n None h = tt
new_sized zeroed n (Some bytes) h = ap slots_for (sym h.0)

-- what is not owned has no size of its own
none_owned : (p : Option Owned) (n : ℕ) → is_some p ≡ false → C.IfSome p (λ owned. owned.size ≡ n)
none_owned None n e = tt
none_owned (Some owned) n e = absurd (false≢true (sym e))

-- Each call keeps what holds of handles.
pub kept_by : (old new : Handles) (call : Call) (answer : Answer) → AreHandles old → C.Outcome old call answer new → AreHandles new
kept_by old new call answer is (C.IsSame s e) = subst AreHandles (sym e) is
kept_by old new call answer is (C.IsUnmoved s e) = subst AreHandles (sym e) (moved_handles old is 0)
kept_by old new call answer is (C.IsLocked l) = subst AreHandles (sym l.rest) (M.locked_kept old is l.slot _ (l.object, l.named.there, l.has, l.loose, l.some, refl))
kept_by old new call answer is (C.IsUnlocked u) = subst AreHandles (sym u.rest) (M.unlocked_kept old is u.slot _ (inr (u.object, u.named.there, u.loose, refl)))
kept_by old new call answer is (C.IsFreed f) = subst AreHandles (sym f.rest) (M.without_object old is f.slot)
kept_by old new call answer is (C.IsNewest n) = subst AreHandles (sym n.rest) (M.ordered_kept old is (C.newest n.slot old.heap.order) (newest_heap old.heap is.heap n.slot (ordered old.heap is.heap _ n.may)))
kept_by old new call answer is (C.IsOldest n) = subst AreHandles (sym n.rest) (M.ordered_kept old is (C.oldest _ _) (oldest_heap _ is.heap _ (ordered old.heap is.heap _ n.may)))
kept_by old new call answer is (C.IsEntered e) = subst AreHandles (sym e.rest) (moved_handles _ (M.with_absent_object old is _ _ (C.kind_asked e.flags) _ (some_slots _) tt e.free e.entered) (moved_bytes old.heap new.heap))
kept_by old new call answer is (C.IsAllocated a) = subst AreHandles (sym a.rest)
    (moved_handles _ (M.with_new_object old is _ _ a.count a.object
    (C.with_newest _ a.object) (C.stays_for _ (C.alloc_options _)) _
    (some_slots _) tt a.free (new_sized (C.alloc_options a.flags).zero _
    _ a.is_new.new_bytes) a.settled) (moved_bytes old.heap new.heap))
kept_by old new call answer is (C.IsCompacted c) = subst AreHandles (sym c.rest) (moved_handles _ (M.settled_handles old is c.count _ c.settled) (moved_bytes old.heap new.heap))
kept_by old new call answer is (C.IsModified m) = subst AreHandles (sym m.rest) (moved_handles _
    (kind_handles old is m.slot (kind_modified _) m.object new.heap m.named.there (subst (λ r. IfOk r IsHeap) m.modified (kind_heap_law _ _ _ is.heap)) m.changes) (moved_bytes old.heap new.heap))
kept_by old new call answer is (C.IsDiscarded d) = subst AreHandles (sym d.rest) (moved_handles _ (absent_handles old is _ d.object d.named.there d.unlocked) (moved_bytes old.heap (absent old.heap _)))
kept_by old new call answer is (C.IsResized r) = subst AreHandles (sym r.rest) (moved_handles _ (anew_handles old is r.slot (rounded_size _) (realloc_options _) r.object r.named.there r.first r.gets r.heap r.resized
    (none_owned _ _ (sym (ap (λ p. C.unwrap_or (C.option_map (C.is_owned old) p) false) r.named.found) ∙ r.own))) (moved_bytes old.heap r.heap))

pub handle_law : C.HandleLaw
handle_law old new command answer is step = kept_by old new (Calls command) answer is (outcome old new (Calls command) answer is step)

pub resize_law : C.ResizeLaw
resize_law old new handle size flags answer is step = kept_by old new (ReAllocs _ size flags) (Word _) is (outcome old new _ _ is step)

pub compacted_handles : (old : Handles) → AreHandles old → (size answer : ℕ) (new : Handles) → C.GlobalCompacts old size answer new → AreHandles new
compacted_handles old is size answer new step = handle_law old new (C.GlobalCompact size) (Dword _) is step

pub found_some : (old : Handles) (handle slot : ℕ) → slot_of_handle old handle ≡ Some slot → handle ≢ 0
found_some old handle slot found none = turn (object_at old.heap slot) ((names_law old _ slot).0.0 found)
  where
    turn : (p : Option Object) → IsSomeAnd p (λ o. handle ≡ handle_of o.kind slot) → ⊥
    turn None h = h
    turn (Some o) h = some_handle _ slot (sym h ∙ none)

-- NULL leaves the heap
null_heap : (old new : Handles) (answer : ℕ) → IsNull old answer new → new.heap ≡ old.heap
null_heap old new answer null = ap (λ h. h.heap) null.1

-- Fewest discards.
module _ (old new : Handles) (is : AreHandles old) (handle size flags answer slot : ℕ) where
  abbrev Fewest : Object → Type 0
  Fewest o = (answer ≢ 0 → (first : ℕ) × (heap : Heap) × (answer ≡ handle_of o.kind first) × (new.heap ≡ C.rehoused heap slot first) × ReallocatesFewest old.heap slot (rounded_size size) o (realloc_options flags) true heap)
      × (answer ≡ 0 → (C.LacksRun old slot o (realloc_options flags) (slots_for (rounded_size size))
      ⊎ ((C.size_of o < rounded_size size) × C.LacksPlace old.heap slot (rounded_size size) o (realloc_options flags))) × (new.heap ≡ old.heap))

  abbrev Few : Type 0
  Few = IsSomeAnd (object_at old.heap slot) Fewest

  answered_fewest : (o : Object) → object_at old.heap slot ≡ Some o → (first : ℕ) (answered : Bool) (heap : Heap) → C.Reallocates old.heap slot (rounded_size size) (realloc_options flags) answered heap
      → MatchBool answered (Anew old slot o.kind first (slots_for (rounded_size size)) heap answer new) (IsNull old answer new) → Fewest o
  answered_fewest o there first true heap r anew = (
    (λ _. (first, heap, anew.0, ap (λ (h : Handles). h.heap) anew.1, subst (λ p. IsSomeAnd p (λ o. ReallocatesFewest old.heap slot (rounded_size size) o (realloc_options flags) true heap)) there (fewest_law old.heap heap slot (rounded_size size) (realloc_options flags) true is.heap r))),
    (λ none. absurd (some_handle o.kind first (sym anew.0 ∙ none))),
  )
  answered_fewest o there first false heap r null =
      let f : ReallocatesFewest old.heap slot (rounded_size size) o (realloc_options flags) false heap = subst
      (λ p. IsSomeAnd p (λ o. ReallocatesFewest old.heap slot (rounded_size size) o (realloc_options flags) false
      heap)) there (fewest_law old.heap heap slot (rounded_size size) (realloc_options flags) false is.heap r) in (
        (λ some. absurd (some null.0)),
        (λ _. (inr ((f.refused refl).0, (f.refused refl).1), null_heap old new answer null)),
      )

  object_fewest : (p : Option Object) → object_at old.heap slot ≡ p → IsSomeAnd p (C.ResizesObject old slot flags size answer new) → IsSomeAnd p Fewest
  object_fewest None there g = absurd g
  object_fewest (Some o) there (inl g) = ((λ some. absurd (some g.1.0)), (λ _. (inl g.0, null_heap old new answer g.1)))
  object_fewest (Some o) there (inr g) = answered_fewest o there g.0 g.2 g.3 g.4 g.5

pub resize_fewest_law : C.ResizeFewestLaw
resize_fewest_law old new handle size flags answer is step slot found free same some small = turn (slot_of_handle old handle) found
    (subst (λ b. MatchBool b (IsNull old answer new) (C.ReAllocsOwn old handle size flags answer new)) (ap (λ p. C.unwrap_or (C.option_map (C.is_owned old) p) false) found ∙ free) step)
  where
    resizes : (long : Bool) → C.nat_lt LARGEST_SIZE size ≡ long → MatchBool long (IsNull old answer new) (IsSomeAnd (object_at old.heap slot) (C.ResizesObject old slot flags size answer new)) → Few old new is handle size flags answer slot
    resizes true long g = let over = C.ltb-true LARGEST_SIZE size long in absurd (omega (arith, over, small))
    resizes false long g = object_fewest old new is handle size flags answer slot (object_at old.heap slot) refl g

    sized : (none : Bool) → (size == 0) ≡ none → MatchBool none (Empties old handle slot flags answer new) (Resizes old slot flags size answer new) → Few old new is handle size flags answer slot
    sized true none g = absurd (false≢true (sym (C.ne_eqb size 0 (λ e. absurd (omega (arith, e, some)))) ∙ none))
    sized false none g = resizes (C.nat_lt LARGEST_SIZE size) refl g

    modifies : (m : Bool) → has_flag flags GMEM_MODIFY ≡ m → MatchBool m
        (AnswersHandle old handle (modified old.heap slot (kind_modified flags)) answer new)
        (MatchBool (size == 0) (Empties old handle slot flags answer new) (Resizes old slot flags size answer new)) → Few
        old new is handle size flags answer slot
    modifies true m g = absurd (false≢true (sym same ∙ m))
    modifies false m g = sized (size == 0) refl g

    turn : (p : Option ℕ) → p ≡ Some slot → C.MatchOption p (IsNull old answer new)
        (λ slot. MatchBool (has_flag flags GMEM_MODIFY) (AnswersHandle old handle
        (modified old.heap slot (kind_modified flags)) answer new)
        (MatchBool (size == 0) (Empties old handle slot flags answer new) (Resizes old slot flags size answer new))) →
        Few old new is handle size flags answer slot
    turn p e g = modifies (has_flag flags GMEM_MODIFY) refl
        (subst (λ p. C.MatchOption p (IsNull old answer new)
        (λ slot. MatchBool (has_flag flags GMEM_MODIFY) (AnswersHandle old handle
        (modified old.heap slot (kind_modified flags)) answer new)
        (MatchBool (size == 0) (Empties old handle slot flags answer new) (Resizes old slot flags size answer new)))) e g)

-- Handles that stay, and those that go.
module _ (old new : Handles) (is : AreHandles old) (call : Call) (reply : Answer) (r : Resized old call reply new) where
  pub handle_is : r.handle ≡ handle_of r.object.kind r.slot
  handle_is = subst (λ p. IsSomeAnd p (λ o. r.handle ≡ handle_of o.kind r.slot)) r.named.there ((names_law old r.handle r.slot).0.0 r.named.found)

  -- a new handle is of another slot
  pub moves : (answer handle : ℕ) → reply ≡ Word answer → r.handle ≡ handle → answer ≢ handle → r.slot ≢ r.first
  moves answer handle says names d e = let both : answer ≡ handle_of r.object.kind r.first = (let g : ◌≡◌ {A = Answer} (Word answer) (Word (handle_of r.object.kind r.first)) = sym says ∙ r.answered in cc) in
      d (both ∙ ap (handle_of r.object.kind) (sym e) ∙ sym handle_is ∙ names)

-- a reallocation that answers is of its handle, or gives another size
pub answered : (old new : Handles) (handle size flags answer : ℕ) → AreHandles old → C.GlobalReAllocs old handle size flags answer new → answer ≢ 0 → (answer ≡ handle) ⊎ Resized old (ReAllocs handle size flags) (Word answer) new
answered old new handle size flags answer is step some = elim (reallocates old _ _ new is _ size flags _ refl refl step).1 [
  | inl none ↦ absurd (some none)
  | inr told ↦ told
]

pub one_slot_law : C.OneSlotLaw
one_slot_law old new handle size flags answer is step few some = elim (answered old new _ size flags _ is step some) [
  | inl e ↦ e
  | inr r ↦ stays_named r
]
  where
    stays_named : Resized old (ReAllocs handle size flags) (Word answer) new → answer ≡ handle
    stays_named r = elim (cases_eq _ _) [
      | inl e ↦ e
      | inr d ↦
          let named : r.handle ≡ handle = (let e = r.asked in cc) in
          let size_is : r.size ≡ size = (let e = r.asked in cc) in
          absurd (moves old new is _ _ r _ _ refl named d
          (sym (stays old is _ r.object r.named.there _ (realloc_options _) _ (subst (λ n. rounded_size n ≤ REACH) (sym size_is) few) r.gets)))
    ]
