-- The laws of each call on handles, by its outcome: what stays, the bytes moved, and the order of use.
use Rattle.w16_model.proofs as model
use Rattle.w16_model.proofs.CallOrders as K
use Rattle.w16_laws.specs.CallLaws as W
use model.CallLaws.{contents, next_own, place_own, next_other, place_beside, followed, other}
use model.Common.{arith, Heap, ℕ, is_some, ◌≡◌, true, Bool, List, blocks, ◌<◌, map, [], ◌∷◌, inl, refl, sym, inr, ◌∙◌, ◌+◌, ap, Option, None, false≢true, Some, not, is_member, object_at, Object, Handles, Answer, next_slot, subst, counts_moved, Word, ◌⊎◌, without, cond, OnlyLeave}
use model.Common.{false, handle_in, ◌&&◌, newest, Ok, Err}
use model.CallOrders.{stays}
use model.{CallOutcomes.outcome, CallOutcomes.none_moved, Gaps.Member, Heaps.IsBlockOf, Heaps.member_block, Heaps.block_member, Heaps.blocks_rise, Heaps.keys_rise, KeptHeaps.bytes_in, KeptHeaps.taken_here, KeptHeaps.inserted_here, Discards.is_member-true, Discards.true-is_member}
use model.{Starts.member_map, ResizedHandles.found_some, Fewest.some_handle, KindChanges.twice_out, KeptRest.all_stay, KeptRest.at_once, KeptRest.absents_order, Runs.unused, Runs.some_slots, KeptHandles.settled, Others.others_law}
use Rattle.std.specs.List.{AllByRecursion as Each}
use Rattle.w16_model.specs.declared.Kind.TheVariants.{Fixed, Moveable, Discardable}
use Rattle.w16_model.specs.{declared.Block.Block, declared.Kind.Kind, declared.RoomOptions.RoomOptions}
use Rattle.w16_laws.specs.CallLaws.{may_order, IsMoved, size_at, IsSumOfMoved}
use Rattle.w16_model.proofs.Common as C
use Rattle.std.specs.FinMap as finmap
use Rattle.w16_model.proofs.Gaps as M

pub contents_law : W.ContentsLaw
contents_law old new call answer is m step = contents old new call answer (outcome old new _ _ is step) m

-- The bytes moved to a heap, from which each object of old goes on to its next slot.
module _ (old mid new : Heap) (is : C.IsHeap old) (next : ℕ → ℕ) (goes : (q : ℕ) → is_some (finmap.get old.places q) ≡ true → finmap.get new.places (next q) ≡ finmap.get mid.places q) where
  abbrev moves : Block → Bool
  moves x = C.is_elsewhere x.at (finmap.get mid.places x.id)

  abbrev moving : List Block
  moving = C.filter moves (blocks old)

  abbrev id_of : Block → ℕ
  id_of x = x.id

  ids_differ : (xs : List Block) → M.EachPair (λ x y. x.id < y.id) xs → M.EachPair (λ a b. a ≡ b → ⊥) (map id_of xs)
  ids_differ [] h = tt
  ids_differ (x ∷ xs) h = (above xs h.0, ids_differ xs h.1)
    where
      above : (ys : List Block) → Each (λ (y : Block). x.id < y.id) ys → Each (λ b. x.id ≡ b → ⊥) (map id_of ys)
      above [] h = tt
      above (y ∷ ys) h = ((λ e. omega (arith, h.0, e)), above ys h.1)

  member_back : (xs : List Block) (q : ℕ) → Member q (map id_of xs) → (x : Block) × Member x xs × (x.id ≡ q)
  member_back [] q m = absurd m
  member_back (x ∷ xs) q (inl e) = (x, inl refl, sym e)
  member_back (x ∷ xs) q (inr m) = let r : (x : Block) × Member x xs × (x.id ≡ q) = member_back xs q m in (r.0, inr r.1, r.2)

  sum_is : (xs : List Block) → ((x : Block) → Member x xs → x.size ≡ size_at old x.id) → C.sum_by (λ (x : Block). x.size) xs ≡ C.sum_by (size_at old) (map id_of xs)
  sum_is [] h = refl
  sum_is (x ∷ xs) h = C.sum_by-cons (λ (x : Block). x.size) x xs ∙ (λ i. h x (inl refl) i + sum_is xs (λ y m. h y (inr m)) i) ∙ sym (C.sum_by-cons (size_at old) x.id (map id_of xs))

  size_is : (x : Block) → Member x moving → x.size ≡ size_at old x.id
  size_is x m =
      let b : IsBlockOf old x = member_block old x (M.member_filter moves (blocks old) x m).0 in
      b.size ∙ sym (ap (λ p. C.unwrap_or (C.option_map C.length (bytes_in p)) 0) b.is_there ∙ ap (λ p. C.unwrap_or (C.option_map C.length p) 0) b.has_bytes)

  -- an address that has changed
  elsewhere : (x : Block) (q : ℕ) → x.id ≡ q → (p r : Option ℕ) → finmap.get old.places q ≡ p → finmap.get mid.places q ≡ r → x.at ≡ C.unwrap_or p 0 → is_some p ≡ true → C.is_elsewhere x.at r ≡ true → IsMoved old new next q
  elsewhere x q e None r was now at some t = cc
  elsewhere x q e (Some a) None was now at some t = cc
  elsewhere x q e (Some a) (Some b) was now at some t = (a, b, was, goes q (ap is_some was) ∙ now, (λ same. false≢true (sym (ap not (C.eq-eqb b x.at (sym same ∙ sym at))) ∙ t)))

  into : (q : ℕ) → is_member q (map id_of moving) ≡ true → IsMoved old new next q
  into q t =
      let r : (x : Block) × Member x moving × (x.id ≡ q) = member_back moving q (is_member-true q (map id_of moving) t) in
      let f : Member r.0 (blocks old) × C.IsTrue (moves r.0) = M.member_filter moves (blocks old) r.0 r.1 in
      let b : IsBlockOf old r.0 = member_block old r.0 f.0 in
      elsewhere r.0 q r.2 (finmap.get old.places q) (finmap.get mid.places q) refl refl (b.place ∙ ap (λ k. C.unwrap_or (finmap.get old.places k) 0) r.2)
      (is.at_bytes q ∙ ap (λ k. is_some (bytes_in (object_at old k))) (sym r.2) ∙ ap (λ p. is_some (bytes_in p)) b.is_there ∙ ap is_some b.has_bytes)
      (ap (λ k. C.is_elsewhere r.0.at (finmap.get mid.places k)) (sym r.2) ∙ f.1)

  back : (q : ℕ) → IsMoved old new next q → is_member q (map id_of moving) ≡ true
  back q m = by_object (object_at old q) refl (sym (is.at_bytes q) ∙ ap is_some m.2)
    where
      listed : (o : Object) (bytes : List ℕ) → object_at old q ≡ Some o → o.bytes ≡ Some bytes → is_member q (map id_of moving) ≡ true
      listed o bytes there has =
          let x : Block = record { id = q; at = m.0; size = C.length bytes; hold = C.hold_of_object o } in
          let b : IsBlockOf old x = record { object = o; bytes = bytes; is_there = there; has_bytes = has; place = sym (ap (λ p. C.unwrap_or p 0) m.2); size = refl; hold = refl } in
          true-is_member q (map id_of moving) (member_map id_of moving x (M.filter_member moves (blocks old) x (block_member old x b) (ap (C.is_elsewhere m.0) (sym (goes q (ap is_some m.2)) ∙ m.3) ∙ ap not (C.ne_eqb m.1 m.0 (λ e. m.4 (sym e))))))

      by_bytes : (o : Object) → object_at old q ≡ Some o → (b : Option (List ℕ)) → o.bytes ≡ b → is_some b ≡ true → is_member q (map id_of moving) ≡ true
      by_bytes o there None has t = cc
      by_bytes o there (Some bytes) has t = listed o bytes there has

      by_object : (p : Option Object) → object_at old q ≡ p → is_some (bytes_in p) ≡ true → is_member q (map id_of moving) ≡ true
      by_object None there t = cc
      by_object (Some o) there t = by_bytes o there o.bytes refl t

  moved_sum : IsSumOfMoved old new next (C.moved_bytes old mid)
  moved_sum = record {
    ids = map id_of moving;
    once = M.AllPairs-from_EachPair (λ a b. a ≡ b → ⊥) (map id_of moving) (ids_differ moving (M.pairs_filter (λ (x y : Block). x.id < y.id) moves (blocks old)
        (blocks_rise old.places (finmap.entries old.objects) (keys_rise (finmap.entries old.objects) (C.entries_sorted old.objects)))));
    each = λ q. (into q, back q);
    sum = sum_is moving size_is;
  }

module _ (old new : Handles) (is : C.AreHandles old) (call : C.Call) (answer : Answer) where
  abbrev Sum : Type 0
  Sum = IsSumOfMoved old.heap new.heap (next_slot old call answer new) new.moved

  sized_again : (r : C.Resized old call answer new) → Sum
  sized_again r = subst (IsSumOfMoved _ _ _) (sym (ap (λ h. h.moved) r.rest)) (moved_sum _ r.heap _ is.heap _ goes)
    where
      there_at : (q : ℕ) → is_some (finmap.get old.heap.places q) ≡ true → is_some (object_at old.heap q) ≡ true
      there_at q t = turn (object_at old.heap q) (sym (is.heap.at_bytes q) ∙ t)
        where
          turn : (p : Option Object) → is_some (bytes_in p) ≡ true → is_some p ≡ true
          turn None t = t
          turn (Some o) t = refl

      goes : (q : ℕ) → is_some (finmap.get old.heap.places q) ≡ true → finmap.get new.heap.places (next_slot old call answer new q) ≡ finmap.get r.heap.places q
      goes q t = elim (C.cases_eq q r.slot) [
        | inl e ↦ rw (e, next_own old new is call answer r) (place_own old new is call answer r)
        | inr d ↦ rw (next_other old new is call answer r q d) (place_beside old new is call answer r q (there_at q t) d)
      ]

  module _ (stays : (q : ℕ) → next_slot old call answer new q ≡ q) where
    by_rest : new.moved ≡ C.moved_bytes old.heap new.heap → Sum
    by_rest e = subst (IsSumOfMoved _ _ _) (sym e) (moved_sum _ new.heap _ is.heap _ (λ q t. ap (finmap.get new.heap.places) (stays q)))

    counted : C.Outcome old call answer new → counts_moved call ≡ true → Sum
    counted (C.IsSame s e) c = cc
    counted (C.IsUnmoved s e) c = by_rest (ap (λ h. h.moved) e ∙ sym (none_moved old.heap new.heap (rw e)))
    counted (C.IsLocked l) c = cc (ap counts_moved l.asked)
    counted (C.IsUnlocked u) c = cc (ap counts_moved u.asked)
    counted (C.IsFreed f) c = cc (ap counts_moved f.asked)
    counted (C.IsNewest n) c = cc (ap counts_moved n.asked)
    counted (C.IsOldest n) c = cc (ap counts_moved n.asked)
    counted (C.IsEntered e) c = by_rest (rw e.rest)
    counted (C.IsAllocated a) c = by_rest (rw a.rest)
    counted (C.IsCompacted c) t = by_rest (rw c.rest)
    counted (C.IsModified m) c = by_rest (rw m.rest)
    counted (C.IsDiscarded d) c = by_rest (rw d.rest)
    counted (C.IsResized r) c = sized_again r

  -- a handle isn't 0
  never : (handle slot : ℕ) → C.slot_of_handle old handle ≡ Some slot → answer ≡ Word handle → answer ≡ Word 0 → ⊥
  never handle slot found says zero = found_some old handle slot found (cc)

  new_handle : (kind : Kind) (slot : ℕ) → answer ≡ Word (C.handle_of kind slot) → answer ≡ Word 0 → ⊥
  new_handle kind slot says zero = some_handle kind slot (cc)

  refused : C.Outcome old call answer new → counts_moved call ≡ true → answer ≡ Word 0 → new.moved ≡ 0
  refused (C.IsSame s e) c z = cc
  refused (C.IsUnmoved s e) c z = rw e
  refused (C.IsLocked l) c z = cc (ap counts_moved l.asked)
  refused (C.IsUnlocked u) c z = cc (ap counts_moved u.asked)
  refused (C.IsFreed f) c z = cc (ap counts_moved f.asked)
  refused (C.IsNewest n) c z = cc (ap counts_moved n.asked)
  refused (C.IsOldest n) c z = cc (ap counts_moved n.asked)
  refused (C.IsEntered e) c z = absurd (new_handle _ e.slot e.answered z)
  refused (C.IsAllocated a) c z = absurd (new_handle _ a.slot a.answered z)
  refused (C.IsCompacted c) t z = cc
  refused (C.IsModified m) c z = absurd (never _ _ m.named.found m.answered z)
  refused (C.IsDiscarded d) c z = absurd (never _ _ d.named.found d.answered z)
  refused (C.IsResized r) c z = absurd (new_handle _ r.first r.answered z)

pub moved_law : W.MovedLaw
moved_law old new call answer is step =
    let o = outcome old new _ _ is step in
    record { counted = λ c. by_slot o c (followed old new _ _ is step); refused = refused old new is _ _ o; other = other old new is _ _ o }
  where
    by_slot : C.Outcome old call answer new → counts_moved call ≡ true → ((q : ℕ) → next_slot old call answer new q ≡ q) ⊎ C.Resized old call answer new → Sum old new is call answer
    by_slot o c (inl stays) = counted old new is _ _ stays o c
    by_slot o c (inr r) = sized_again old new is _ _ r

oldest_rest : (id : ℕ) (l : List ℕ) → without id (C.oldest id l) ≡ without id l
oldest_rest id l = rw (C.eq-eqb id id refl) (twice_out id l)

-- What a step of a heap leaves of it.
module _ (old new : Heap) where
  pub same : new.order ≡ old.order → OnlyLeave new old.order new.order
  same e = stays old new old.order new.order e

  one_left : (id : ℕ) → C.bytes_at new id ≡ None → new.order ≡ without id old.order → OnlyLeave new old.order new.order
  one_left id none e = record {
    gone = id ∷ [];
    without_bytes = λ q t. turn q (is_member-true q (id ∷ []) t);
    order_is = e ∙ sym (all_stay (without id old.order)) ∙ at_once id [] old.order;
  }
    where
      turn : (q : ℕ) → Member q (id ∷ []) → C.bytes_at new q ≡ None
      turn q (inl e) = ap (C.bytes_at new) e ∙ none
      turn q (inr m) = absurd m

  pub freed : (id : ℕ) → new ≡ C.removed old id → OnlyLeave new old.order new.order
  freed id e = one_left id (rw e (ap bytes_in (taken_here old.objects id id refl))) (rw e)

  pub resized : (id n : ℕ) (o : Object) (options : RoomOptions) → C.KeepsRest old id n o options new → OnlyLeave new (without id old.order) (without id new.order)
  resized id n o options k = K.discards old new (Some id) k.count k.others (without id old.order) (without id new.order) (K.rest_resized old new id n o options k)

module _ (old new : Handles) (is : C.AreHandles old) (call : C.Call) (answer : Answer) where
  unordered : C.Outcome old call answer new → may_order call ≡ false → OnlyLeave new.heap old.heap.order new.heap.order
  unordered (C.IsSame s e) m = same old.heap new.heap (rw e)
  unordered (C.IsUnmoved s e) m = same old.heap new.heap (rw e)
  unordered (C.IsLocked l) m = cc (ap may_order l.asked)
  unordered (C.IsUnlocked u) m = same old.heap new.heap (rw u.rest)
  unordered (C.IsFreed f) m = freed old.heap new.heap f.slot (rw f.rest)
  unordered (C.IsNewest n) m = cc (ap may_order n.asked)
  unordered (C.IsOldest n) m = cc (ap may_order n.asked)
  unordered (C.IsEntered e) m = cc (ap may_order e.asked)
  unordered (C.IsAllocated a) m = cc (ap may_order a.asked)
  unordered (C.IsCompacted c) m = K.compacted old.heap new.heap is.heap c.count c.settled
  unordered (C.IsModified c) m = cc (ap may_order c.asked)
  unordered (C.IsDiscarded d) m = cc (ap may_order d.asked)
  unordered (C.IsResized r) m = cc (ap may_order r.asked)

  -- a call names its object
  about : (handle slot : ℕ) → handle_in call ≡ Some handle → C.slot_of_handle old handle ≡ Some slot → C.IsAbout old call slot
  about handle slot names found = rw names found

  abbrev Others : Type 0
  Others = W.OthersStand (C.IsAbout old call) (next_slot old call answer new) old.heap new.heap

  others_resized : C.Resized old call answer new → Others
  others_resized r = inr (r.slot, inl (about _ r.slot (rw r.asked) r.named.found), rw (next_own old new is call answer r) (K.resized_leaves old new is call answer r))

  module _ (same_slot : (q : ℕ) → next_slot old call answer new q ≡ q) where
    left_by : (slot : ℕ) → OnlyLeave new.heap (without slot old.heap.order) (without slot new.heap.order) → OnlyLeave new.heap (without slot old.heap.order) (without (next_slot old call answer new slot) new.heap.order)
    left_by slot l = rw (same_slot slot) l

    of_named : (handle slot : ℕ) → handle_in call ≡ Some handle → C.slot_of_handle old handle ≡ Some slot → without slot new.heap.order ≡ without slot old.heap.order → Others
    of_named handle slot names found e = inr (slot, inl (about handle slot names found), left_by slot (stays old.heap new.heap _ _ e))

    others : C.Outcome old call answer new → Others
    others (C.IsSame s e) = inl (same old.heap new.heap (rw e))
    others (C.IsUnmoved s e) = inl (same old.heap new.heap (rw e))
    others (C.IsLocked l) = of_named _ l.slot (rw l.asked) l.named.found (rw l.rest (K.touched_rest l.slot old.heap.order))
    others (C.IsUnlocked u) = inl (same old.heap new.heap (rw u.rest))
    others (C.IsFreed f) = inl (freed old.heap new.heap f.slot (rw f.rest))
    others (C.IsNewest n) = of_named _ n.slot (rw n.asked) n.named.found (rw n.rest (K.newest_rest n.slot old.heap.order))
    others (C.IsOldest n) = of_named _ n.slot (rw n.asked) n.named.found (rw n.rest (oldest_rest n.slot old.heap.order))
    others (C.IsEntered e) = inl (same old.heap new.heap (rw e.entered.entered))
    others (C.IsAllocated a) = inr (a.slot, inr (unused old is a.slot (C.slots_for (C.rounded_size a.size)) (some_slots (C.rounded_size a.size)) a.free), left_by a.slot (K.allocated old.heap new.heap is.heap a.slot a.count (C.alloc_options a.flags) a.object a.settled))
    others (C.IsCompacted c) = inl (K.compacted old.heap new.heap is.heap c.count c.settled)
    others (C.IsModified m) = of_named _ m.slot (rw m.asked) m.named.found m.changes.rest
    others (C.IsDiscarded d) = of_named _ d.slot (rw d.asked) d.named.found (rw d.rest (twice_out d.slot old.heap.order))
    others (C.IsResized r) = others_resized r

pub unordered_law : W.UnorderedLaw
unordered_law old new call answer is m step = unordered old new is call answer (outcome old new _ _ is step) m

pub others_order_law : W.OthersOrderLaw
others_order_law old new call answer is step = elim (followed old new _ _ is step) [
  | inl same_slot ↦ others old new is _ _ same_slot (outcome old new _ _ is step)
  | inr r ↦ others_resized old new is _ _ r
]

-- A new object.
pub new_object_law : W.NewObjectLaw
new_object_law old new flags size handle is a listed = made (C.is_absent_asked flags size) a.made
  where
    never : (b : Bool) → (b && false) ≡ true → ⊥
    never true t = false≢true t
    never false t = false≢true t

    made : (b : Bool) → C.MatchBool b (C.Enters old.heap a.slot (C.kind_asked flags) new.heap) (C.Allocates old.heap a.slot (C.rounded_size size) (C.kind_asked flags) 0 (C.alloc_options flags) true new.heap)
        → (left : List ℕ) × OnlyLeave new.heap old.heap.order left × C.IsNewestOf a.slot left new.heap.order
    made true e = absurd (never (C.is_discardable (C.kind_asked flags)) (ap C.is_in_order (sym (ap (λ h. object_at h a.slot) e.entered ∙ inserted_here old.heap.objects a.slot (record { kind = C.kind_asked flags; locks = 0; bytes = None }) a.slot refl)) ∙ listed))
    made false m =
        let s : (k : ℕ) × (o : Object) × C.Settles old.heap (C.stays_for a.slot (C.alloc_options flags)) (C.with_ordered (C.discarded old.heap k (Some a.slot)) a.slot o (C.with_newest a.slot o)) new.heap =
        settled old.heap a.slot (C.alloc_options flags) (C.discards_needed old.heap (C.rounded_size size) (Some a.slot) (C.alloc_options flags)) (C.IsNew (C.alloc_options flags).zero (C.rounded_size size) (C.kind_asked flags) 0) (C.with_newest a.slot) new.heap m.request in
        let ids = C.take s.0 (C.eligible (blocks old.heap) old.heap.order (Some a.slot)) in
        let here = ap (λ h. object_at h a.slot) s.2.same ∙ inserted_here (C.discarded old.heap s.0 (Some a.slot)).objects a.slot s.1 a.slot refl in (
          C.without_all ids old.heap.order,
          record { gone = ids; without_bytes = K.gone_bytes old.heap new.heap (Some a.slot) s.0 ((others_law old.heap new.heap is.heap s.0).0 a.slot (C.alloc_options flags) s.1 (C.with_newest a.slot s.1) s.2); order_is = refl },
          ap (λ h. h.order) s.2.same ∙ ap (λ b. cond {A = List ℕ} b (newest a.slot (C.discarded old.heap s.0 (Some a.slot)).order) (without a.slot (C.discarded old.heap s.0 (Some a.slot)).order)) (sym (ap C.is_in_order here) ∙ listed)
              ∙ ap (newest a.slot) (absents_order ids old.heap),
        )

-- Uses of an object in the order.
module _ (old new : Handles) (is : C.AreHandles old) (handle slot : ℕ) (o : Object) (found : C.slot_of_handle old handle ≡ Some slot) (there : object_at old.heap slot ≡ Some o) (listed : C.is_in_order (Some o) ≡ true) where
  parts : C.IsTrue (C.is_discardable o.kind) × C.IsTrue (is_some o.bytes)
  parts = C.and_parts _ _ listed

  member : is_member slot old.heap.order ≡ true
  member = is.heap.in_order slot ∙ ap C.is_in_order there ∙ listed

  kind_loose : (kind : Kind) → C.is_discardable kind ≡ true → C.is_fixed kind ≡ false
  kind_loose Fixed t = cc
  kind_loose Moveable t = refl
  kind_loose Discardable t = refl

  abbrev locked_heap : Heap
  locked_heap = C.with_ordered old.heap slot (record o { locks = o.locks + 1 }) (C.touched slot)

  locked : o.locks < 255 → C.after_lock old.heap slot ≡ Ok locked_heap
  locked few = rw (there, parts.1, kind_loose o.kind parts.0, C.ne_eqb o.locks 255 (λ e. omega (arith, e, few)), C.after_lock)

  use_lock : o.locks < 255 → new ≡ (C.global_lock old handle).1 → C.IsNewestOf slot old.heap.order new.heap.order
  use_lock few e = rw (e, found, locked few, member, C.global_lock)

  may : C.refused_order old.heap slot ≡ None
  may = rw (there, parts.1, parts.0, C.refused_order)

  use_order : (order : ℕ → List ℕ → List ℕ)
      → new ≡ (C.handle_or_0 (λ heap id. elim (C.refused_order heap id) [ Some refusal ↦ Err refusal | None ↦ Ok (record heap { order = order id heap.order }) ]) old handle).1 → new.heap.order ≡ order slot old.heap.order
  use_order order e = rw (e, found, may, C.handle_or_0)

pub use_law : W.UseLaw
use_law old new handle slot o answer is found there listed = (
  (λ few step. use_lock old new is _ _ o found there listed few step.1),
  (λ step. use_order old new is _ slot o found there listed newest step.1),
  (λ step. use_order old new is _ slot o found there listed C.oldest step.1),
)
