-- The laws of each call on handles, by its outcome.
use Rattle.w16_model.proofs
use proofs.Common as C
use proofs.Housed as K
use proofs.Common.{◌≡◌, ◌≢◌, ℕ, ◌+◌, ◌-◌, ◌/◌, ◌==◌, ◌⊎◌, inl, inr, Bool, true, false, cond, IsSomeAnd, take, Option, Some, None, option_map, is_some, unwrap_or, refl, sym, ap, ◌∙◌, subst, eq-eqb, ne_eqb, false≢true, cases_eq}
use proofs.Common.{eligible, Heap, Object, blocks, object_at, bytes_at, without, Handles, AreHandles, slot_of_handle, handle_of, Answer, rounded_size, Word, realloc_options, Call, ReAllocs, Calls, Outcome, Resized}
use proofs.Common.{counts_moved, IsSame, IsUnmoved, IsLocked, IsUnlocked, IsFreed, IsNewest, IsOldest, IsEntered, IsAllocated, IsCompacted, IsModified, IsDiscarded, IsResized, KeepsContents, may_change, next_slot, slot_after}
use proofs.KeptHeaps.{bytes_in}
use proofs.CallOutcomes.{outcome, reallocates}
use proofs.{KeptHandles.put_bytes, KeptHandles.put_same}
use proofs.{Housed.keeps, KeptRest.absents_rest, Naming.names_law, Naming.slot_in_handle, Reallocations.moves_law, ResizedHandles.found_some}
use Rattle.w16_model.specs.Reallocation.{IsResized as IsObjectResized}
use Rattle.std.specs.FinMap as finmap

-- What is kept.
module _ (old new : Handles) (call : Call) (answer : Answer) where
  pub contents : Outcome old call answer new → may_change call ≡ false → KeepsContents old new
  contents (IsSame s e) m = subst (KeepsContents old) (sym e) (record { addresses = refl; bytes = λ q. refl; kinds = λ q. refl; attributes = refl })
  contents (IsUnmoved s e) m = subst (KeepsContents old) (sym e) (record { addresses = refl; bytes = λ q. refl; kinds = λ q. refl; attributes = refl })
  contents (IsLocked l) m = subst (KeepsContents old) (sym l.rest) (record { addresses = refl; bytes = put_bytes old.heap l.slot l.object (record l.object { locks = l.object.locks + 1 }) l.named.there refl; kinds = put_same _ old.heap l.slot l.object _ l.named.there refl; attributes = refl })
  contents (IsUnlocked u) m = subst (KeepsContents old) (sym u.rest) (record { addresses = refl; bytes = put_bytes old.heap u.slot u.object (record u.object { locks = u.object.locks - 1 }) u.named.there refl; kinds = put_same _ old.heap u.slot u.object _ u.named.there refl; attributes = refl })
  contents (IsNewest n) m = subst (KeepsContents old) (sym n.rest) (record { addresses = refl; bytes = λ q. refl; kinds = λ q. refl; attributes = refl })
  contents (IsOldest n) m = subst (KeepsContents old) (sym n.rest) (record { addresses = refl; bytes = λ q. refl; kinds = λ q. refl; attributes = refl })
  contents (IsFreed f) m = absurd (false≢true (sym m ∙ ap may_change f.asked))
  contents (IsEntered e) m = absurd (false≢true (sym m ∙ ap may_change e.asked))
  contents (IsAllocated a) m = absurd (false≢true (sym m ∙ ap may_change a.asked))
  contents (IsCompacted c) m = absurd (false≢true (sym m ∙ ap may_change c.asked))
  contents (IsModified c) m = absurd (false≢true (sym m ∙ ap may_change c.asked))
  contents (IsDiscarded d) m = absurd (false≢true (sym m ∙ ap may_change d.asked))
  contents (IsResized r) m = absurd (false≢true (sym m ∙ ap may_change r.asked))

-- What an answered reallocation leaves, first of the heap in which its object has its old slot still.
module _ (old new : Handles) (is : AreHandles old) (call : Call) (answer : Answer) (r : Resized old call answer new) where
  pub rest_of : C.KeepsRest old.heap r.slot (rounded_size r.size) r.object (realloc_options r.flags) r.heap
  rest_of = keeps old is r.slot (rounded_size r.size) (realloc_options r.flags) r.object r.named.there r.first r.gets r.heap r.resized

  pub moves_of : C.MovesLittle old.heap r.slot (rounded_size r.size) r.object (realloc_options r.flags) r.heap
  moves_of = subst (λ p. IsSomeAnd p (λ o. C.MovesLittle old.heap r.slot (rounded_size r.size) o (realloc_options r.flags) r.heap)) r.named.there (moves_law old.heap r.heap r.slot (rounded_size r.size) (realloc_options r.flags) is.heap r.resized)

  abbrev house : Heap
  house = K.housed old is r.slot (rounded_size r.size) (realloc_options r.flags) r.object r.named.there r.first r.gets r.heap r.resized

  pub heap_is : new.heap ≡ house
  heap_is = ap (λ (h : Handles). h.heap) r.rest

  -- The object is at its first slot then, with its address.
  pub object_first : object_at new.heap r.first ≡ object_at r.heap r.slot
  object_first = ap (λ (h : Heap). object_at h r.first) heap_is ∙ K.housed_first old is r.slot (rounded_size r.size) (realloc_options r.flags) r.object r.named.there r.first r.gets r.heap r.resized

  pub place_own : finmap.get new.heap.places r.first ≡ finmap.get r.heap.places r.slot
  place_own = ap (λ (h : Heap). finmap.get h.places r.first) heap_is ∙ K.place_first old is r.slot (rounded_size r.size) (realloc_options r.flags) r.object r.named.there r.first r.gets r.heap r.resized

  pub object_left : r.slot ≢ r.first → object_at new.heap r.slot ≡ None
  object_left d = ap (λ (h : Heap). object_at h r.slot) heap_is ∙ K.housed_old old is r.slot (rounded_size r.size) (realloc_options r.flags) r.object r.named.there r.first r.gets r.heap r.resized d

  -- Every other object keeps its slot, which isn't the new one.
  module _ (q : ℕ) (there : is_some (object_at old.heap q) ≡ true) (other : q ≢ r.slot) where
    pub bystands : q ≢ r.first
    bystands e = elim (cases_eq r.slot r.first) [
      | inl here ↦ other (e ∙ sym here)
      | inr d ↦ false≢true (sym (ap is_some (ap (object_at old.heap) e ∙ K.was_free old is r.slot (rounded_size r.size) (realloc_options r.flags) r.object r.named.there r.first r.gets r.heap r.resized d)) ∙ there)
    ]

    pub object_beside : object_at new.heap q ≡ object_at r.heap q
    object_beside = ap (λ (h : Heap). object_at h q) heap_is ∙ K.housed_other old is r.slot (rounded_size r.size) (realloc_options r.flags) r.object r.named.there r.first r.gets r.heap r.resized q bystands other

    pub place_beside : finmap.get new.heap.places q ≡ finmap.get r.heap.places q
    place_beside = ap (λ (h : Heap). finmap.get h.places q) heap_is ∙ K.place_other old is r.slot (rounded_size r.size) (realloc_options r.flags) r.object r.named.there r.first r.gets r.heap r.resized q bystands other

  -- what has no bytes in that heap has none in the end
  pub no_bytes : (q : ℕ) → is_some (object_at old.heap q) ≡ true → bytes_at r.heap q ≡ None → bytes_at new.heap q ≡ None
  no_bytes q there none = elim (cases_eq q r.slot) [
    | inl e ↦ elim (cases_eq r.slot r.first) [
      | inl here ↦ ap (bytes_at new.heap) (e ∙ here) ∙ ap bytes_in object_first ∙ ap (bytes_at r.heap) (sym e) ∙ none
      | inr d ↦ ap (bytes_at new.heap) e ∙ ap bytes_in (object_left d)
    ]
    | inr d ↦ ap bytes_in (object_beside q there d) ∙ none
  ]

  -- the others stand in the order as they did
  pub order_is : without r.first new.heap.order ≡ without r.slot r.heap.order
  order_is = ap (λ (h : Heap). without r.first h.order) heap_is ∙ K.order_there old is r.slot (rounded_size r.size) (realloc_options r.flags) r.object r.named.there r.first r.gets r.heap r.resized

  -- The handle that is answered is that of the object.
  pub next_is : slot_of_handle new (handle_of r.object.kind r.first) ≡ Some r.first
  next_is = (names_law new (handle_of r.object.kind r.first) r.first).0.1 (subst (λ p. IsSomeAnd p (λ (o : Object). handle_of r.object.kind r.first ≡ handle_of o.kind r.first)) (sym object_first) (turn (object_at r.heap r.slot) rest_of.object))
    where
      turn : (p : Option Object) → IsSomeAnd p (IsObjectResized (realloc_options r.flags).zero (rounded_size r.size) r.object) → IsSomeAnd p (λ (o : Object). handle_of r.object.kind r.first ≡ handle_of o.kind r.first)
      turn None h = absurd h
      turn (Some o) h = ap (λ kind. handle_of kind r.first) (sym h.kind)

  abbrev chosen : Bool → ℕ → ℕ
  chosen b q = cond b (slot_after new (handle_of r.object.kind r.first) q) q

  next_by : (q : ℕ) → next_slot old call answer new q ≡ chosen (r.slot == q) q
  next_by q = (λ i. next_slot old (r.asked i) (r.answered i) new q) ∙ ap (λ p. chosen (unwrap_or (option_map (λ s. s == q) p) false) q) r.named.found

  pub next_own : next_slot old call answer new r.slot ≡ r.first
  next_own = next_by r.slot ∙ ap (λ b. chosen b r.slot) (eq-eqb r.slot r.slot refl) ∙ ap (λ p. unwrap_or p r.slot) next_is

  pub next_other : (q : ℕ) → q ≢ r.slot → next_slot old call answer new q ≡ q
  next_other q d = next_by q ∙ ap (λ b. chosen b q) (ne_eqb r.slot q (λ e. d (sym e)))

-- Each object keeps its slot through a call, but for one that a reallocation gives another size.
pub followed : (old new : Handles) (call : Call) (answer : Answer) → AreHandles old → C.CallStep old call answer new → ((q : ℕ) → next_slot old call answer new q ≡ q) ⊎ Resized old call answer new
followed old new (Calls command) answer is step = inl (λ q. refl)
followed old new (ReAllocs handle size flags) (Word answer) is step = elim (reallocates old (ReAllocs handle size flags) (Word answer) new is handle size flags answer refl refl step).1 [
  | inl none ↦ inl (λ q. stays q (λ s found old_found. absurd (found_some new answer s found none)))
  | inr told ↦ elim told [
    | inl same ↦ inl (λ q. stays q (λ s found old_found. slot_is new answer s found ∙ ap (λ n. n / 8) same ∙ sym (slot_is old handle q old_found)))
    | inr r ↦ inr r
  ]
]
  where
    slot_is : (handles : Handles) (handle slot : ℕ) → slot_of_handle handles handle ≡ Some slot → slot ≡ handle / 8
    slot_is handles handle slot found = turn (object_at handles.heap slot) ((names_law handles handle slot).0.0 found)
      where
        turn : (p : Option Object) → IsSomeAnd p (λ o. handle ≡ handle_of o.kind slot) → slot ≡ handle / 8
        turn None h = absurd h
        turn (Some o) h = sym (ap (λ n. n / 8) h ∙ slot_in_handle o.kind slot)

    stays : (q : ℕ) → ((s : ℕ) → slot_of_handle new answer ≡ Some s → slot_of_handle old handle ≡ Some q → s ≡ q) → next_slot old (ReAllocs handle size flags) (Word answer) new q ≡ q
    stays q same = by_old (slot_of_handle old handle) refl
      where
        by_new : slot_of_handle old handle ≡ Some q → (p : Option ℕ) → slot_of_handle new answer ≡ p → unwrap_or p q ≡ q
        by_new old_found None found = refl
        by_new old_found (Some s) found = same s found old_found

        by_names : (s : ℕ) → slot_of_handle old handle ≡ Some s → cond (s == q) (slot_after new answer q) q ≡ q
        by_names s old_found = elim (cases_eq s q) [
          | inl e ↦ ap (λ b. cond b (slot_after new answer q) q) (eq-eqb s q e) ∙ by_new (old_found ∙ ap Some e) (slot_of_handle new answer) refl
          | inr d ↦ ap (λ b. cond b (slot_after new answer q) q) (ne_eqb s q d)
        ]

        by_old : (p : Option ℕ) → slot_of_handle old handle ≡ p → cond (unwrap_or (option_map (λ s. s == q) p) false) (slot_after new answer q) q ≡ q
        by_old None e = refl
        by_old (Some s) e = by_names s e
followed old new call answer is step = absurd step

module _ (old new : Handles) (is : AreHandles old) (call : Call) (answer : Answer) where
  abbrev Kept : Handles → Type 0
  Kept h = (h.slots ≡ old.slots) × (h.heap.lo ≡ old.heap.lo) × (h.heap.hi ≡ old.heap.hi)

  slots : Outcome old call answer new → Kept new
  slots (IsSame s e) = subst Kept (sym e) (refl, refl, refl)
  slots (IsUnmoved s e) = subst Kept (sym e) (refl, refl, refl)
  slots (IsLocked l) = subst Kept (sym l.rest) (refl, refl, refl)
  slots (IsUnlocked u) = subst Kept (sym u.rest) (refl, refl, refl)
  slots (IsFreed f) = subst Kept (sym f.rest) (refl, refl, refl)
  slots (IsNewest n) = subst Kept (sym n.rest) (refl, refl, refl)
  slots (IsOldest n) = subst Kept (sym n.rest) (refl, refl, refl)
  slots (IsEntered e) = (ap (λ (h : Handles). h.slots) e.rest, ap (λ (h : Heap). h.lo) e.entered.entered, ap (λ (h : Heap). h.hi) e.entered.entered)
  slots (IsAllocated a) = (
    ap (λ (h : Handles). h.slots) a.rest,
    ap (λ (h : Heap). h.lo) a.settled.same ∙
        (absents_rest (take a.count (eligible (blocks old.heap) old.heap.order (Some a.slot))) old.heap).0,
    ap
        (λ (h : Heap). h.hi) a.settled.same ∙ (absents_rest
        (take a.count (eligible (blocks old.heap) old.heap.order (Some a.slot))) old.heap).1,
  )
  slots (IsCompacted c) = (
    ap (λ (h : Handles). h.slots) c.rest,
    ap (λ (h : Heap). h.lo) c.settled.same ∙
        (absents_rest (take c.count (eligible (blocks old.heap) old.heap.order None)) old.heap).0,
    ap (λ (h : Heap). h.hi)
        c.settled.same ∙ (absents_rest (take c.count (eligible (blocks old.heap) old.heap.order None)) old.heap).1,
  )
  slots (IsModified m) = (ap (λ (h : Handles). h.slots) m.rest, m.changes.range.0, m.changes.range.1)
  slots (IsDiscarded d) = subst Kept (sym d.rest) (refl, refl, refl)
  slots (IsResized r) =
      let k = rest_of old new is call answer r in
      let same = K.housed_range old is r.slot (rounded_size r.size) (realloc_options r.flags) r.object r.named.there r.first r.gets r.heap r.resized in
      (ap (λ (h : Handles). h.slots) r.rest, ap (λ (h : Heap). h.lo) (heap_is old new is call answer r) ∙ same.0 ∙ k.low, ap (λ (h : Heap). h.hi) (heap_is old new is call answer r) ∙ same.1 ∙ k.high)

pub slots_law : C.SlotsLaw
slots_law old new call answer is step = slots old new is call answer (outcome old new call _ is step)

module _ (old new : Handles) (is : AreHandles old) (call : Call) (answer : Answer) where
  pub other : Outcome old call answer new → counts_moved call ≡ false → new.moved ≡ old.moved
  other (IsSame s e) c = ap (λ (h : Handles). h.moved) e
  other (IsUnmoved s e) c = absurd (false≢true (sym c ∙ s))
  other (IsLocked l) c = ap (λ (h : Handles). h.moved) l.rest
  other (IsUnlocked u) c = ap (λ (h : Handles). h.moved) u.rest
  other (IsFreed f) c = ap (λ (h : Handles). h.moved) f.rest
  other (IsNewest n) c = ap (λ (h : Handles). h.moved) n.rest
  other (IsOldest n) c = ap (λ (h : Handles). h.moved) n.rest
  other (IsEntered e) c = absurd (false≢true (sym c ∙ ap counts_moved e.asked))
  other (IsAllocated a) c = absurd (false≢true (sym c ∙ ap counts_moved a.asked))
  other (IsCompacted k) c = absurd (false≢true (sym c ∙ ap counts_moved k.asked))
  other (IsModified m) c = absurd (false≢true (sym c ∙ ap counts_moved m.asked))
  other (IsDiscarded d) c = absurd (false≢true (sym c ∙ ap counts_moved d.asked))
  other (IsResized r) c = absurd (false≢true (sym c ∙ ap counts_moved r.asked))
