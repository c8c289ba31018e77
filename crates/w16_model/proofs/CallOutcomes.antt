-- Each call on handles has one of the outcomes.
use Rattle.w16_model.proofs
use proofs.Common as C
use proofs.Common.{◌≡◌, ℕ, ◌+◌, ◌-◌, ◌⊎◌, inl, inr, Bool, true, false, cond, not, ◌||◌, ◌==◌, if◌then◌else◌, MatchBool, IsSomeAnd, nat_lt, IfOk, List, [], ◌∷◌, filter, Option, Some, None, Result, Ok, Err, is_some, refl, sym, ap, ◌∙◌, subst, arith, false≢true, Refusal}
use proofs.Common.{GMEM_MODIFY, LARGEST_SIZE, Heap, Object, object_at, is_fixed, with_object, with_ordered, touched, IsNew, moved_bytes, is_elsewhere, after_lock, after_unlock, after_modify, refused_order, Handles, slot_of_handle, owns, Answer, handle_or_0, alloc_options, kind_asked}
use proofs.Common.{rounded_size, has_flag, Word, Dword, GlobalAlloc, GlobalFree, GlobalLock, GlobalUnlock, GlobalCompact, GlobalLRUNewest, GlobalLRUOldest, Moved, Walk, ChangesKind, kind_modified, modified, IsNull, AnswersHandle, AnswersDiscard, Empties, Anew, ResizesObject, Resizes, Call}
use proofs.Common.{IsNamed, counts_moved, Calls, ReAllocs, IsSame, IsUnmoved}
use proofs.{Gaps.Member, Heaps.member_block, Naming.names_law, KindChanges.kind_law, Absence.answer as discard_answer, Absence.discard_is}
use Rattle.std.specs.FinMap as finmap
use Rattle.w16_model.specs.declared.Refusal.TheVariants as refusals

-- Nothing is moved where addresses stay.
filter_none : {X : Type 0} (p : X → Bool) (xs : List X) → ((x : X) → Member x xs → p x ≡ false) → filter p xs ≡ []
filter_none p [] h = refl
filter_none {X} p (x ∷ xs) h = ap (λ b. cond {A = List X} b (x ∷ filter p xs) (filter p xs)) (h x (inl refl)) ∙ filter_none p xs (λ y m. h y (inr m))

none_elsewhere : (at : ℕ) (p : Option ℕ) → at ≡ C.unwrap_or p 0 → is_elsewhere at p ≡ false
none_elsewhere at None e = refl
none_elsewhere at (Some now) e = ap not (C.eq-eqb now at (sym e))

pub none_moved : (heap new : Heap) → new.places ≡ heap.places → moved_bytes heap new ≡ 0
none_moved heap new same = ap (λ xs. C.sum_by (λ x. x.size) xs) (filter_none (λ x. is_elsewhere x.at _) _
    (λ x m. ap (λ places. is_elsewhere x.at (finmap.get places x.id)) same ∙ none_elsewhere x.at (finmap.get _ x.id) (let b = member_block heap x m in b.place)))

-- a choice of two results is good where each is that may be chosen
if_ok : (P : Heap → Type 0) (b : Bool) (r s : Result Heap Refusal) → (b ≡ true → IfOk r P) → (b ≡ false → IfOk s P) → IfOk (cond b r s) P
if_ok P true r s f g = f refl
if_ok P false r s f g = g refl

not_false : (b : Bool) → not b ≡ false → b ≡ true
not_false true e = refl
not_false false e = absurd (false≢true (sym e))

none_locked : (n : ℕ) → nat_lt 0 n ≡ false → n ≡ 0
none_locked n f = let le = C.ltb-false 0 n f in omega arith

-- another fact of each heap that a step may leave
pub ok_map : (P Q : Heap → Type 0) (r : Result Heap Refusal) → ((heap : Heap) → P heap → Q heap) → IfOk r P → IfOk r Q
ok_map P Q (Ok heap) f h = f heap h
ok_map P Q (Err refusal) f h = tt

-- what one lock more is, and one less
abbrev pub LockOf : Heap → ℕ → Heap → Type 0
LockOf heap id next =
    (o : Object) × (object_at heap id ≡ Some o) × (is_some o.bytes ≡ true) × (is_fixed o.kind ≡ false) × ((o.locks == 255) ≡ false)
    × (next ≡ with_ordered heap id (record o { locks = o.locks + 1 }) (touched id))

abbrev pub UnlockOf : Heap → ℕ → Heap → Type 0
UnlockOf heap id next = (next ≡ heap) ⊎ ((o : Object) × (object_at heap id ≡ Some o) × (is_fixed o.kind ≡ false) × (next ≡ with_object heap id (record o { locks = o.locks - 1 })))

pub lock_is : (heap : Heap) (id : ℕ) → IfOk (after_lock heap id) (LockOf heap id)
lock_is heap id = turn _ refl
  where
    turn : (p : Option Object) → object_at heap id ≡ p → IfOk (elim p [
      | None ↦ Err refusals.Absent
      | Some o ↦ if not (is_some o.bytes) then Err refusals.Absent
          else (if is_fixed o.kind then Err refusals.Fixed
          else (if o.locks == 255 then Err refusals.LockFull
          else Ok (with_ordered heap id (record o { locks = o.locks + 1 }) (touched id))))
    ]) (LockOf heap id)
    turn None e = tt
    turn (Some o) e =
        let locked = Ok (with_ordered heap id (record o { locks = o.locks + 1 }) (touched id)) in
        if_ok _ _ _ _ (λ _. tt) (λ has.
        if_ok _ _ _ _ (λ _. tt) (λ loose.
        if_ok (LockOf heap id) (o.locks == 255) (Err _) locked (λ _. tt) (λ some. (o, e, not_false (is_some _) has, loose, some, refl))))

pub unlock_is : (heap : Heap) (id : ℕ) → IfOk (after_unlock heap id) (UnlockOf heap id)
unlock_is heap id = turn _ refl
  where
    turn : (p : Option Object) → object_at heap id ≡ p → IfOk (elim p [ None ↦ Ok heap | Some o ↦ if is_fixed o.kind then Err refusals.Fixed else Ok (with_object heap id (record o { locks = o.locks - 1 })) ]) (UnlockOf heap id)
    turn None e = inl refl
    turn (Some o) e = if_ok _ (is_fixed o.kind) _ (Ok (with_object heap id (record o { locks = o.locks - 1 }))) (λ _. tt) (λ loose. inr (o, e, loose, refl))

module _ (old : Handles) (call : Call) (reply : Answer) (new : Handles) where
  -- an outcome of what is left
  abbrev Out : Type 0
  Out = C.Outcome old call reply new

  -- a heap that makes one, if it is what is left
  abbrev Good : Heap → Type 0
  Good heap = new ≡ record old { heap = heap } → Out

  -- a handle that is found names an object
  named : (handle slot : ℕ) → slot_of_handle old handle ≡ Some slot → (o : Object) × IsNamed old handle slot o
  named handle slot found = turn (object_at old.heap slot) refl ((names_law old handle slot).0.0 found)
    where
      turn : (p : Option Object) → object_at old.heap slot ≡ p → IsSomeAnd p (λ o. handle ≡ C.handle_of o.kind slot) → (o : Object) × IsNamed old handle slot o
      turn None there h = absurd h
      turn (Some o) there h = (o, record { found = found; there = there })

  -- GlobalFree
  abbrev free_outcome : ℕ → ℕ → Result Heap Refusal → Answer × Handles
  free_outcome handle slot r = elim r [ Ok heap ↦ (Word 0, record old { heap = heap; attributes = finmap.remove old.attributes slot }) | Err _ ↦ (Word handle, old) ]

  frees : (handle : ℕ) → call ≡ Calls (GlobalFree handle) → new ≡ (C.global_free old handle).1 → Out
  frees handle asked = by_owner (owns old handle) refl
    where
      stays : new ≡ old → Out
      stays e = IsSame (ap counts_moved asked) e

      found : owns old handle ≡ false → (slot : ℕ) (o : Object) → IsNamed old handle slot o → new ≡ (free_outcome handle slot (C.after_free old.heap slot)).1 → Out
      found own slot o n = by_object (object_at old.heap slot) refl
        where
          by_lock : (p : Object) → p ≡ o → (b : Bool) → nat_lt 0 p.locks ≡ b → new ≡ (free_outcome handle slot (cond {A = Result Heap Refusal} b (Err refusals.Locked) (Ok (C.removed old.heap slot)))).1 → Out
          by_lock p q true t e = stays e
          by_lock p q false t e = C.IsFreed (record { handle = handle; slot = slot; object = o; asked = asked; named = n; own = own; unlocked = none_locked o.locks (ap (λ (o : Object). nat_lt 0 o.locks) (sym q) ∙ t); rest = e })

          by_object : (p : Option Object) → object_at old.heap slot ≡ p → new ≡ (free_outcome handle slot (elim p [ None ↦ Ok old.heap | Some o ↦ if nat_lt 0 o.locks then Err refusals.Locked else Ok (C.removed old.heap slot) ])).1 → Out
          by_object None there e = let both : ◌≡◌ {A = Option Object} None (Some o) = sym there ∙ n.there in cc
          by_object (Some p) there e = by_lock p (let both : ◌≡◌ {A = Option Object} (Some p) (Some o) = sym there ∙ n.there in cc) (nat_lt 0 p.locks) refl e

      turn : owns old handle ≡ false → (s : Option ℕ) → slot_of_handle old handle ≡ s → new ≡ (elim s as (λ _. Answer × Handles) [ None ↦ (Word handle, old) | Some slot ↦ free_outcome handle slot (C.after_free old.heap slot) ]).1 → Out
      turn own None found_none e = stays e
      turn own (Some slot) is_found e = let n : (o : Object) × IsNamed old handle slot o = named handle slot is_found in found own slot n.0 n.1 e

      by_owner : (b : Bool) → owns old handle ≡ b → new ≡ (cond {A = Answer × Handles} b (Word handle, old) (C.free_own old handle)).1 → Out
      by_owner true own e = stays e
      by_owner false own e = turn own (slot_of_handle old handle) refl e

  -- GlobalLock
  abbrev lock_outcome : ℕ → Result Heap Refusal → Answer × Handles
  lock_outcome slot r = elim r [
    | Ok heap ↦ (Dword (C.far_pointer (C.selector_of slot) 0), record old { heap = heap })
    | Err refusals.Fixed ↦ (Dword (C.far_pointer (C.selector_of slot) 0), old)
    | Err _ ↦ (Dword 0, old)
  ]

  locks : (handle : ℕ) → call ≡ Calls (GlobalLock handle) → new ≡ (C.global_lock old handle).1 → Out
  locks handle asked = turn (slot_of_handle old handle) refl
    where
      stays : new ≡ old → Out
      stays e = IsSame (ap counts_moved asked) e

      lock_ok : (slot : ℕ) (o : Object) → IsNamed old handle slot o → IfOk (after_lock old.heap slot) Good
      lock_ok slot o n = ok_map (LockOf old.heap slot) Good (after_lock old.heap slot) (λ heap l left. C.IsLocked (record {
        handle = handle;
        slot = slot;
        object = l.0;
        asked = asked;
        named = record { found = n.found; there = l.1 };
        has = l.2;
        loose = l.3;
        some = l.4;
        rest = left ∙ ap (λ (h : Heap). record old { heap = h }) l.5;
      })) (lock_is old.heap slot)

      outcome : (slot : ℕ) (r : Result Heap Refusal) → IfOk r Good → new ≡ (lock_outcome slot r).1 → Out
      outcome slot (Ok heap) h e = h e
      outcome slot (Err refusals.Fixed) h e = stays e
      outcome slot (Err _) h e = stays e

      turn : (s : Option ℕ) → slot_of_handle old handle ≡ s → new ≡ (elim s as (λ _. Answer × Handles) [ None ↦ (Dword 0, old) | Some slot ↦ lock_outcome slot (after_lock old.heap slot) ]).1 → Out
      turn None is_found e = stays e
      turn (Some slot) is_found e = let n : (o : Object) × IsNamed old handle slot o = named handle slot is_found in outcome slot (after_lock old.heap slot) (lock_ok slot n.0 n.1) e

  -- GlobalUnlock
  abbrev unlock_outcome : ℕ → Result Heap Refusal → Answer × Handles
  unlock_outcome slot r = elim r [ Ok heap ↦ (Word (if nat_lt 0 (C.locks_at heap slot) then 1 else 0), record old { heap = heap }) | Err _ ↦ (Word 0, old) ]

  unlocks : (handle : ℕ) → call ≡ Calls (GlobalUnlock handle) → new ≡ (C.global_unlock old handle).1 → Out
  unlocks handle asked = turn (slot_of_handle old handle) refl
    where
      stays : new ≡ old → Out
      stays e = IsSame (ap counts_moved asked) e

      unlock_ok : (slot : ℕ) (o : Object) → IsNamed old handle slot o → IfOk (after_unlock old.heap slot) Good
      unlock_ok slot o n = ok_map (UnlockOf old.heap slot) Good (after_unlock old.heap slot) (λ heap u left. by_object heap u left) (unlock_is old.heap slot)
        where
          by_object : (heap : Heap) → UnlockOf old.heap slot heap → Good heap
          by_object heap (inl same) left = stays (left ∙ ap (λ (h : Heap). record old { heap = h }) same)
          by_object heap (inr u) left = C.IsUnlocked (record {
            handle = handle;
            slot = slot;
            object = u.0;
            asked = asked;
            named = record { found = n.found; there = u.1 };
            loose = u.2;
            rest = left ∙ ap (λ (h : Heap). record old { heap = h }) u.3;
          })

      outcome : (slot : ℕ) (r : Result Heap Refusal) → IfOk r Good → new ≡ (unlock_outcome slot r).1 → Out
      outcome slot (Ok heap) h e = h e
      outcome slot (Err _) h e = stays e

      turn : (s : Option ℕ) → slot_of_handle old handle ≡ s → new ≡ (elim s as (λ _. Answer × Handles) [ None ↦ (Word 0, old) | Some slot ↦ unlock_outcome slot (after_unlock old.heap slot) ]).1 → Out
      turn None is_found e = stays e
      turn (Some slot) is_found e = let n : (o : Object) × IsNamed old handle slot o = named handle slot is_found in outcome slot (after_unlock old.heap slot) (unlock_ok slot n.0 n.1) e

  -- GlobalLRUNewest and GlobalLRUOldest
  abbrev order_outcome : ℕ → Result Heap Refusal → Answer × Handles
  order_outcome handle r = elim r [ Ok heap ↦ (Word handle, record old { heap = heap }) | Err _ ↦ (Word 0, old) ]

  orders : (asks : ℕ → C.Command C.OfHandles) (order : ℕ → List ℕ → List ℕ) → (C.Orders old call asks order new → Out) → (handle : ℕ) → counts_moved call ≡ false → call ≡ Calls (asks handle)
      → new ≡ (handle_or_0 (λ heap id. elim (refused_order heap id) [ Some refusal ↦ Err refusal | None ↦ Ok (record heap { order = order id heap.order }) ]) old handle).1 → Out
  orders asks order is handle still asked = turn (slot_of_handle old handle) refl
    where
      outcome : (slot : ℕ) (o : Object) → IsNamed old handle slot o → (f : Option Refusal) → refused_order old.heap slot ≡ f
          → new ≡ (order_outcome handle (elim f [ Some refusal ↦ Err refusal | None ↦ Ok (record old.heap { order = order slot old.heap.order }) ])).1 → Out
      outcome slot o n (Some refusal) may e = IsSame still e
      outcome slot o n None may e = is (record { handle = handle; slot = slot; object = o; asked = asked; named = n; may = may; rest = e })

      turn : (s : Option ℕ) → slot_of_handle old handle ≡ s → new ≡ (elim s as (λ _. Answer × Handles) [
        | None ↦ (Word 0, old)
        | Some slot ↦ order_outcome handle (elim (refused_order old.heap slot) [ Some refusal ↦ Err refusal | None ↦ Ok (record old.heap { order = order slot old.heap.order }) ])
      ]).1 → Out
      turn None is_found e = IsSame still e
      turn (Some slot) is_found e = let n : (o : Object) × IsNamed old handle slot o = named handle slot is_found in outcome slot n.0 n.1 (refused_order old.heap slot) refl e

  -- GlobalAlloc
  allocates : (flags size handle : ℕ) → call ≡ Calls (GlobalAlloc flags size) → reply ≡ Word handle → C.GlobalAllocs old flags size handle new → Out
  allocates flags size handle asked says (inl refused) = IsUnmoved (ap counts_moved asked) refused.2
  allocates flags size handle asked says (inr a) = made (C.is_absent_asked flags size) a.made
    where
      made : (b : Bool) → MatchBool b (C.Enters old.heap a.slot (kind_asked flags) new.heap) (C.Allocates old.heap a.slot (rounded_size size) (kind_asked flags) 0 (alloc_options flags) true new.heap) → Out
      made true entered = C.IsEntered (record { flags = flags; size = size; slot = a.slot; asked = asked; answered = says ∙ ap Word a.named; free = a.free; entered = entered; rest = a.rest })
      made false allocated = settled (C.discards_needed old.heap (rounded_size size) (Some a.slot) (alloc_options flags)) allocated.request
        where
          settled : (p : Option ℕ) → C.Request old.heap a.slot (record { options = alloc_options flags; prefix = p; becomes = IsNew (alloc_options flags).zero (rounded_size size) (kind_asked flags) 0; order = C.with_newest a.slot }) true new.heap → Out
          settled None r = absurd (false≢true (sym r.0))
          settled (Some k) r = C.IsAllocated (record { flags = flags; size = size; slot = a.slot; count = k; object = r.1.0; asked = asked; answered = says ∙ ap Word a.named; free = a.free; is_new = r.1.1; settled = r.1.2; rest = a.rest })

  -- GlobalCompact
  compacts : (size longest : ℕ) → call ≡ Calls (GlobalCompact size) → reply ≡ Dword longest → C.GlobalCompacts old size longest new → Out
  compacts size longest asked says c = turn (size == 0) c.compacted
    where
      turn : (b : Bool) → MatchBool b ((longest ≡ C.most_room old.heap) × (new.heap ≡ old.heap)) (C.MakesRoom old.heap size longest new.heap) → Out
      turn true h = IsUnmoved (ap counts_moved asked) (c.rest ∙ (λ i. record old { heap = h.1 i; moved = moved_bytes old.heap (h.1 i) }) ∙ ap (λ n. record old { moved = n }) (none_moved old.heap old.heap refl))
      turn false h = C.IsCompacted (record { size = size; count = C.compaction_prefix old.heap size; longest = longest; asked = asked; answered = says; settled = h.settled; rest = c.rest })

  -- GlobalReAlloc and GlobalDiscard
  module _ (is : C.AreHandles old) (handle size flags answer : ℕ) (asked : call ≡ ReAllocs handle size flags) (says : reply ≡ Word answer) where
    -- its outcome, and that it is NULL, answers its handle, or gives another size
    abbrev Told : Type 0
    Told = Out × ((answer ≡ 0) ⊎ (answer ≡ handle) ⊎ C.Resized old call reply new)

    null : IsNull old answer new → Told
    null g = (IsUnmoved (ap counts_moved asked) g.1, inl g.0)

    left : (heap : Heap) → AnswersHandle old handle heap answer new → heap ≡ new.heap
    left heap g = sym (ap (λ (h : Handles). h.heap) g.1)

    rest : (heap : Heap) → AnswersHandle old handle heap answer new → new ≡ record old { heap = new.heap; moved = moved_bytes old.heap new.heap }
    rest heap g = g.1 ∙ ap (λ (h : Heap). record old { heap = h; moved = moved_bytes old.heap h }) (left heap g)

    unmoved : (heap : Heap) → heap ≡ old.heap → AnswersHandle old handle heap answer new → Told
    unmoved heap e g = (IsUnmoved (ap counts_moved asked) (g.1 ∙ (λ i. record old { heap = e i; moved = moved_bytes old.heap (e i) }) ∙ ap (λ n. record old { moved = n }) (none_moved old.heap old.heap refl)), inr (inl g.0))

    -- what a change of kind does to an object
    abbrev Law : ℕ → Object → Type 0
    Law slot o =
        ((is_fixed o.kind || is_fixed (kind_modified flags)) ≡ true → after_modify old.heap slot (kind_modified flags) ≡ Err refusals.Fixed)
        × ((is_fixed o.kind || is_fixed (kind_modified flags)) ≡ false → (new : Heap) × (after_modify old.heap slot (kind_modified flags) ≡ Ok new) × ChangesKind old.heap slot o (kind_modified flags) new)

    modifies : owns old handle ≡ false → (slot : ℕ) (o : Object) → IsNamed old handle slot o → AnswersHandle old handle (modified old.heap slot (kind_modified flags)) answer new → Told
    modifies own slot o n g = turn (is_fixed o.kind || is_fixed (kind_modified flags)) refl (subst (λ p. C.IfSome p (Law slot)) n.there (kind_law old.heap slot (kind_modified flags) is.heap))
      where
        turn : (b : Bool) → (is_fixed o.kind || is_fixed (kind_modified flags)) ≡ b → Law slot o → Told
        turn true t law = unmoved (modified old.heap slot (kind_modified flags)) (ap (λ (r : Result Heap Refusal). elim r [ Ok new ↦ new | Err _ ↦ old.heap ]) (law.0 t)) g
        turn false t law =
            let c : (heap : Heap) × (after_modify old.heap slot (kind_modified flags) ≡ Ok heap) × ChangesKind old.heap slot o (kind_modified flags) heap = law.1 t in
            let same : c.0 ≡ new.heap = sym (ap (λ (r : Result Heap Refusal). elim r [ Ok new ↦ new | Err _ ↦ old.heap ]) c.1) ∙ left (modified old.heap slot (kind_modified flags)) g in (
              C.IsModified (record {
                handle = handle;
                size = size;
                flags = flags;
                slot = slot;
                object = o;
                asked = asked;
                answered = says ∙ ap Word g.0;
                named = n;
                own = own;
                modified = subst (λ (h : Heap). after_modify old.heap slot (kind_modified flags) ≡ Ok h) same c.1;
                changes = subst (ChangesKind old.heap slot o (kind_modified flags)) same c.2;
                rest = rest (modified old.heap slot (kind_modified flags)) g;
              }),
              inr (inl g.0),
            )

    discards : owns old handle ≡ false → (slot : ℕ) (o : Object) → IsNamed old handle slot o → AnswersDiscard old handle answer new (C.after_discard old.heap slot) → Told
    discards own slot o n g = turn (nat_lt 0 o.locks) (C.is_discardable o.kind) refl refl (subst (AnswersDiscard old handle answer new) (discard_is old.heap slot (Some o) n.there) g)
      where
        turn : (locked discardable : Bool) → nat_lt 0 o.locks ≡ locked → C.is_discardable o.kind ≡ discardable → AnswersDiscard old handle answer new (discard_answer old.heap slot locked discardable) → Told
        turn true discardable t d g = null g
        turn false true t d g = (C.IsDiscarded (record { handle = handle; size = size; flags = flags; slot = slot; object = o; asked = asked; answered = says ∙ ap Word g.0; named = n; own = own; unlocked = none_locked o.locks t; discardable = d; rest = g.1 }), inr (inl g.0))
        turn false false t d g = null g

    pub reallocates : C.GlobalReAllocs old handle size flags answer new → Told
    reallocates step = by_owner (owns old handle) refl step
      where
        empties : owns old handle ≡ false → (slot : ℕ) (o : Object) → IsNamed old handle slot o → (m : Bool) → MatchBool m (AnswersDiscard old handle answer new (C.after_discard old.heap slot)) (IsNull old answer new) → Told
        empties own slot o n true g = discards own slot o n g
        empties own slot o n false g = null g

        told : C.Resized old call reply new → Told
        told r = (C.IsResized r, inr (inr r))

        answers : (has_flag flags GMEM_MODIFY ≡ false) × ((size == 0) ≡ false) → owns old handle ≡ false → (slot : ℕ) (o : Object) → IsNamed old handle slot o → nat_lt LARGEST_SIZE size ≡ false
            → (first : ℕ) → C.GetsRun old slot o (C.realloc_options flags) (C.slots_for (rounded_size size)) first → (answered : Bool) (heap : Heap) → C.Reallocates old.heap slot (rounded_size size) (C.realloc_options flags) answered heap
            → MatchBool answered (Anew old slot o.kind first (C.slots_for (rounded_size size)) heap answer new) (IsNull old answer new) → Told
        answers a own slot o n short first gets true heap r g = told (record {
          handle = handle;
          size = size;
          flags = flags;
          slot = slot;
          object = o;
          first = first;
          heap = heap;
          asked = asked;
          answered = says ∙ ap Word g.0;
          named = n;
          own = own;
          sized = a;
          small = C.ltb-false LARGEST_SIZE size short;
          gets = gets;
          resized = r;
          rest = g.1;
        })
        answers a own slot o n short first gets false heap r g = null g

        of_object : (has_flag flags GMEM_MODIFY ≡ false) × ((size == 0) ≡ false) → owns old handle ≡ false → (slot : ℕ) (o : Object) → IsNamed old handle slot o → nat_lt LARGEST_SIZE size ≡ false → ResizesObject old slot flags size answer new o → Told
        of_object a own slot o n short (inl g) = null g.1
        of_object a own slot o n short (inr g) = answers a own slot o n short g.0 g.1 g.2 g.3 g.4 g.5

        resizes : (has_flag flags GMEM_MODIFY ≡ false) × ((size == 0) ≡ false) → owns old handle ≡ false → (slot : ℕ)
            (o : Object) → IsNamed old handle slot o → (long : Bool) → nat_lt LARGEST_SIZE size ≡ long → MatchBool long
            (IsNull old answer new) (IsSomeAnd (object_at old.heap slot) (ResizesObject old slot flags size answer new))
            → Told
        resizes a own slot o n true t g = null g
        resizes a own slot o n false t g = of_object a own slot o n t (subst (λ p. IsSomeAnd p (ResizesObject old slot flags size answer new)) n.there g)

        sized : has_flag flags GMEM_MODIFY ≡ false → owns old handle ≡ false → (slot : ℕ) (o : Object) → IsNamed old handle slot o → (none : Bool) → (size == 0) ≡ none → MatchBool none (Empties old handle slot flags answer new) (Resizes old slot flags size answer new) → Told
        sized m own slot o n true z g = empties own slot o n (has_flag flags C.GMEM_MOVEABLE) g
        sized m own slot o n false z g = resizes (m, z) own slot o n (nat_lt LARGEST_SIZE size) refl g

        by_modify : owns old handle ≡ false → (slot : ℕ) (o : Object) → IsNamed old handle slot o → (m : Bool) →
            has_flag flags GMEM_MODIFY ≡ m → MatchBool m (AnswersHandle old handle
            (modified old.heap slot (kind_modified flags)) answer new)
            (MatchBool (size == 0) (Empties old handle slot flags answer new) (Resizes old slot flags size answer new)) →
            Told
        by_modify own slot o n true m g = modifies own slot o n g
        by_modify own slot o n false m g = sized m own slot o n (size == 0) refl g

        turn : owns old handle ≡ false → (p : Option ℕ) → slot_of_handle old handle ≡ p → C.MatchOption p
            (IsNull old answer new) (λ slot. MatchBool (has_flag flags GMEM_MODIFY)
            (AnswersHandle old handle (modified old.heap slot (kind_modified flags)) answer new)
            (MatchBool (size == 0) (Empties old handle slot flags answer new) (Resizes old slot flags size answer new)))
            → Told
        turn own None is_found g = null g
        turn own (Some slot) is_found g = let n : (o : Object) × IsNamed old handle slot o = named handle slot is_found in by_modify own slot n.0 n.1 (has_flag flags GMEM_MODIFY) refl g

        by_owner : (b : Bool) → owns old handle ≡ b → MatchBool b (IsNull old answer new) (C.ReAllocsOwn old handle size flags answer new) → Told
        by_owner true own g = null g
        by_owner false own g = turn own (slot_of_handle old handle) refl g

-- Each call has an outcome; one that asks for no other size or kind has one in any handles.
pub call_outcome : (old new : Handles) (command : C.Command C.OfHandles) (answer : Answer) → C.HandleStep old command answer new → C.Outcome old (Calls command) answer new
call_outcome old new (GlobalAlloc flags size) (Word handle) step = allocates old _ _ new flags size _ refl refl step
call_outcome old new (GlobalFree handle) answer step = frees old _ _ new _ refl step.1
call_outcome old new (GlobalLock handle) answer step = locks old _ _ new _ refl step.1
call_outcome old new (GlobalUnlock handle) answer step = unlocks old _ _ new _ refl step.1
call_outcome old new (C.GlobalSize handle) answer step = IsSame refl step.1
call_outcome old new (C.GlobalFlags handle) answer step = IsSame refl step.1
call_outcome old new (C.GlobalHandle selector) answer step = IsSame refl step.1
call_outcome old new (C.GetSelectorBase selector) answer step = IsSame refl step.1
call_outcome old new (C.GetSelectorLimit selector) answer step = IsSame refl step.1
call_outcome old new (GlobalCompact size) (Dword longest) step = compacts old _ _ new size _ refl refl step
call_outcome old new (GlobalLRUNewest handle) answer step = orders old _ _ new GlobalLRUNewest C.newest C.IsNewest handle refl refl step.1
call_outcome old new (GlobalLRUOldest handle) answer step = orders old _ _ new GlobalLRUOldest C.oldest C.IsOldest handle refl refl step.1
call_outcome old new Moved answer step = IsSame refl step.1
call_outcome old new Walk (C.Walked count) step = IsSame refl step.3
call_outcome old new command answer step = absurd step

pub outcome : C.CallOutcomesLaw
outcome old new (Calls command) answer is step = call_outcome old new _ _ step
outcome old new (ReAllocs handle size flags) (Word answer) is step = (reallocates old _ _ new is _ size flags _ refl refl step).0
outcome old new call answer is step = absurd step
