-- What each call does to the order of use.
use Rattle.w16_model.proofs
use proofs.Common as C
use proofs.Common.{◌≡◌, ℕ, ◌+◌, Bool, true, false, cond, not, ◌==◌, IsSomeAnd, List, [], ◌∷◌, ◌++◌, take, Option, Some, None, is_some, refl, sym, ap, ◌∙◌, false≢true, RoomOptions, eligible, is_member, Heap}
use proofs.Common.{Object, blocks, object_at, bytes_at, without, newest, touched, with_ordered, with_newest, Settles, discarded, Handles, Answer, rounded_size, KeepsRest, without_all}
use proofs.Common.{Call, Resized, OnlyLeave}
use proofs.KeptHeaps.{bytes_in}
use proofs.KindChanges.{twice_out, rest_order}
use proofs.KeptRest.{absents_order, all_stay, no_more}
use proofs.CallLaws.{rest_of, no_bytes, order_is}
use proofs.{Others.others_law, Prefixes.filter_swapped}

-- The order without some.

-- without an object, the order with it at an end is as it was
pub newest_rest : (id : ℕ) (l : List ℕ) → without id (newest id l) ≡ without id l
newest_rest id l = rest_order id l false true true

pub touched_rest : (id : ℕ) (l : List ℕ) → without id (touched id l) ≡ without id l
touched_rest id l = turn _
  where
    turn : (b : Bool) → without id (cond {A = List ℕ} b (newest id l) l) ≡ without id l
    turn true = newest_rest id l
    turn false = refl

placed_rest : (id : ℕ) (o : Object) (l : List ℕ) → without id (with_newest id o l) ≡ without id l
placed_rest id o l = turn _
  where
    turn : (b : Bool) → without id (cond {A = List ℕ} b (newest id l) (without id l)) ≡ without id l
    turn true = newest_rest id l
    turn false = twice_out id l

tail_rest : (id : ℕ) (b : Bool) (l : List ℕ) → without id (l ++ cond {A = List ℕ} b (id ∷ []) []) ≡ without id l
tail_rest id true l = C.filter-append (λ q. not _) l _ ∙ (λ i. without id l ++ cond {A = List ℕ} (not (C.eq-eqb id id refl i)) (id ∷ []) []) ∙ no_more _
tail_rest id false l = ap (without id) (no_more l)

-- what loses its bytes
pub gone_bytes : (old new : Heap) (h : Option ℕ) (k : ℕ) → C.KeepsOthers old h k new → (q : ℕ) → is_member q (take k (eligible (blocks old) old.order h)) ≡ true → bytes_at new q ≡ None
gone_bytes old new h k keeps q t = turn (object_at old q) (keeps.discarded q t)
  where
    turn : (p : Option Object) → IsSomeAnd p (λ o. (o.kind ≡ C.Discardable) × (o.locks ≡ 0) × (is_some o.bytes ≡ true) × (object_at new q ≡ Some (record o { bytes = None }))) → bytes_at new q ≡ None
    turn None h = absurd h
    turn (Some o) h = ap bytes_in h.3

-- What a step of a heap leaves of it.
module _ (old new : Heap) where
  -- nothing has left
  pub stays : (order after : List ℕ) → after ≡ order → OnlyLeave new order after
  stays order after e = record { gone = []; without_bytes = λ q t. absurd (false≢true t); order_is = e ∙ sym (all_stay order) }

  pub discards : (h : Option ℕ) (k : ℕ) → C.KeepsOthers old h k new → (order after : List ℕ) → after ≡ without_all (take k (eligible (blocks old) old.order h)) order → OnlyLeave new order after
  discards h k keeps order after e = record { gone = take k (eligible (blocks old) old.order h); without_bytes = gone_bytes old new h k keeps; order_is = e }

  pub compacted : C.IsHeap old → (k : ℕ) → Settles old C.is_pinned (discarded old k None) new → OnlyLeave new old.order new.order
  compacted is k s = discards None k ((others_law old new is k).1 s) old.order new.order (ap (λ (h : Heap). h.order) s.same ∙ absents_order (take k (eligible (blocks old) old.order None)) old)

  -- without an object, and without what has left, or the other way round
  either_way : (id : ℕ) (ids : List ℕ) → without id (without_all ids old.order) ≡ without_all ids (without id old.order)
  either_way id ids = filter_swapped (λ q. not (q == id)) (λ q. not (is_member q ids)) old.order

  pub allocated : C.IsHeap old → (id k : ℕ) (options : RoomOptions) (o : Object) → Settles old (C.stays_for id options) (with_ordered (discarded old k (Some id)) id o (with_newest id o)) new → OnlyLeave new (without id old.order) (without id new.order)
  allocated is id k options o s = discards (Some id) k ((others_law old new is k).0 id options o (with_newest id o) s) (without id old.order) (without id new.order)
      (ap (λ (h : Heap). without id h.order) s.same ∙ placed_rest id o (discarded old k (Some id)).order
      ∙ ap (without id) (absents_order (take k (eligible (blocks old) old.order (Some id))) old) ∙ either_way id (take k (eligible (blocks old) old.order (Some id))))

  -- the others in the order
  pub rest_resized : (id n : ℕ) (o : Object) (options : RoomOptions) (k : KeepsRest old id n o options new) → without id new.order ≡ without_all (take k.count (eligible (blocks old) old.order (Some id))) (without id old.order)
  rest_resized id n o options k =
      let ids : List ℕ = take k.count (eligible (blocks old) old.order (Some id)) in
      ap (without id) k.order ∙ tail_rest id (C.is_revived o) (without_all ids old.order) ∙ either_way id ids

module _ (old new : Handles) (is : C.AreHandles old) (call : Call) (answer : Answer) where
  -- what is discarded for an object that gets another size
  abbrev pub gone_for : Resized old call answer new → List ℕ
  gone_for r = take (rest_of old new is call answer r).count (eligible (blocks old.heap) old.heap.order (Some r.slot))

  pub gone_bare : (r : Resized old call answer new) (q : ℕ) → is_member q (gone_for r) ≡ true → bytes_at new.heap q ≡ None
  gone_bare r q t =
      let k : KeepsRest old.heap r.slot (rounded_size r.size) r.object (C.realloc_options r.flags) r.heap = rest_of old new is call answer r in
      no_bytes old new is call answer r q (was_there _ (object_at old.heap q) (k.others.discarded q t)) (gone_bytes old.heap r.heap (Some r.slot) k.count k.others q t)
    where
      was_there : (P : Object → Type 0) (p : Option Object) → IsSomeAnd p P → is_some p ≡ true
      was_there P None h = absurd h
      was_there P (Some o) h = refl

  -- the others of an object that gets another size, and with it another slot
  pub resized_leaves : (r : Resized old call answer new) → OnlyLeave new.heap (without r.slot old.heap.order) (without r.first new.heap.order)
  resized_leaves r = record {
    gone = gone_for r;
    without_bytes = gone_bare r;
    order_is = order_is old new is call answer r ∙ rest_resized old.heap r.heap r.slot (rounded_size r.size) r.object (C.realloc_options r.flags) (rest_of old new is call answer r);
  }
