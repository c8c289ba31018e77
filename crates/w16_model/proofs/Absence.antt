-- A discard leaves a heap.
use Rattle.w16_model.proofs
use proofs.Common.{◌≡◌, ◌≢◌, ℕ, inl, inr, Bool, true, false, cond, not, ◌&&◌, ◌==◌, nat_lt, IfOk, IfSome, Option, Some, None, Result, Ok, Err, option_map, is_some, refl, sym, ap, ◌∙◌, subst, arith, ltb-false, cases_eq, Block, Refusal, is_member, Heap, Object, IsHeap, IsCounted}
use proofs.Common.{object_at, is_in_order, is_discardable, absent, update, without, after_discard, DiscardHeapLaw}
use proofs.Heaps.{IsBlockOf, block_of_absent, get-update_same, get-update_other}
use proofs.KeptHeaps.{Stands, same_placed, same_grained, taken_here, taken_other, bytes_in, AreBytes}
use proofs.{Gaps.pairs_filter, Gaps.AllPairs-from_EachPair, Gaps.EachPair-from_AllPairs, KindChanges.other_of, Orders.member_gone}
use Rattle.std.specs.FinMap as finmap
use Rattle.w16_model.specs.declared.Refusal.TheVariants as refusals

-- An object that is there and isn't locked becomes absent.
module _ (old : Heap) (is : IsHeap old) (id : ℕ) (o : Object) (there : object_at old id ≡ Some o) (unlocked : o.locks ≡ 0) where
  abbrev bare : Object → Object
  bare p = record p { bytes = None }

  -- it has no bytes
  gone : (q : ℕ) → q ≡ id → object_at (absent old id) q ≡ Some (bare o)
  gone q e = ap (λ k. object_at (absent old id) k) e ∙ get-update_same old.objects id bare ∙ ap (option_map bare) there

  -- the others are as they were
  kept : (q : ℕ) → q ≢ id → object_at (absent old id) q ≡ object_at old q
  kept q d = get-update_other old.objects id bare q d

  left_stands : (x : Block) → IsBlockOf (absent old id) x → Stands old x
  left_stands x b = (x, (block_of_absent old id x b).0, refl, refl, refl)

  no_bytes : (b : Bool) → (b && false) ≡ false
  no_bytes true = refl
  no_bytes false = refl

  counted : IsCounted o
  counted = subst (λ p. IfSome p IsCounted) there (is.counted id)

  pub absent_heap : IsHeap (absent old id)
  absent_heap = record {
    placed = same_placed old is (update old.objects id bare) (finmap.remove old.places id) (without id old.order) left_stands;
    grained = same_grained old is (update old.objects id bare) (finmap.remove old.places id) (without id old.order) left_stands;
    low_grained = is.low_grained;
    at_bytes = λ q. elim (cases_eq q id) [
      | inl e ↦ ap is_some (taken_here old.places id q e) ∙ ap (λ p. is_some (bytes_in p)) (sym (gone q e))
      | inr d ↦ ap is_some (taken_other old.places id q d) ∙ is.at_bytes q ∙ ap (λ p. is_some (bytes_in p)) (sym (kept q d))
    ];
    are_bytes = λ q. elim (cases_eq q id) [
      | inl e ↦ subst (λ p. AreBytes (bytes_in p)) (sym (gone q e)) tt
      | inr d ↦ subst (λ p. AreBytes (bytes_in p)) (sym (kept q d)) (is.are_bytes q)
    ];
    in_order = λ q. elim (cases_eq q id) [
      | inl e ↦ ap (λ k. is_member k (without id old.order)) e ∙ member_gone id old.order ∙ sym (no_bytes (is_discardable o.kind)) ∙ ap is_in_order (sym (gone q e))
      | inr d ↦ other_of q id old.order d ∙ is.in_order q ∙ ap is_in_order (sym (kept q d))
    ];
    no_repeats = AllPairs-from_EachPair (λ a b. a ≡ b → ⊥) (without id old.order) (pairs_filter (λ a b. a ≡ b → ⊥) (λ q. not (q == id)) old.order (EachPair-from_AllPairs (λ a b. a ≡ b → ⊥) old.order is.no_repeats));
    counted = λ q. elim (cases_eq q id) [
      | inl e ↦ subst (λ p. IfSome p IsCounted) (sym (gone q e)) (counted.0, counted.1, λ _. unlocked)
      | inr d ↦ subst (λ p. IfSome p IsCounted) (sym (kept q d)) (is.counted q)
    ];
  }

-- what a discard answers, by whether the object is locked and discardable
abbrev pub answer : Heap → ℕ → Bool → Bool → Result Heap Refusal
answer old id locked discardable = cond {A = Result Heap Refusal} locked (Err refusals.Locked) (cond {A = Result Heap Refusal} discardable (Ok (absent old id)) (Err refusals.NotDiscardable))

-- it is this one
pub discard_is : (old : Heap) (id : ℕ) (p : Option Object) → object_at old id ≡ p
    → after_discard old id ≡ elim p [ None ↦ Err refusals.NotDiscardable | Some o ↦ answer old id (nat_lt 0 o.locks) (is_discardable o.kind) ]
discard_is old id p there = ap (λ p. elim p [ None ↦ Err refusals.NotDiscardable | Some o ↦ answer old id (nat_lt 0 o.locks) (is_discardable o.kind) ]) there

pub discard_heap_law : DiscardHeapLaw
discard_heap_law old id is = turn (object_at old id) refl
  where
    by_test : (o : Object) → object_at old id ≡ Some o → (locked discardable : Bool) → nat_lt 0 o.locks ≡ locked → IfOk (answer old id locked discardable) IsHeap
    by_test o there true discardable t = tt
    by_test o there false false t = tt
    by_test o there false true t = absent_heap old is id o there (let le = ltb-false 0 o.locks t in omega arith)

    turn : (p : Option Object) → object_at old id ≡ p → IfOk (after_discard old id) IsHeap
    turn None there = subst (λ r. IfOk r IsHeap) (sym (discard_is old id None there)) tt
    turn (Some o) there = subst (λ r. IfOk r IsHeap) (sym (discard_is old id (Some o) there)) (by_test o there (nat_lt 0 o.locks) (is_discardable o.kind) refl)

-- where it is answered the object is absent
pub discard_absent : (old new : Heap) (id : ℕ) → after_discard old id ≡ Ok new → new ≡ absent old id
discard_absent old new id done = turn _ refl
  where
    by_test : (locked discardable : Bool) → answer old id locked discardable ≡ Ok new → new ≡ absent old id
    by_test true discardable e = cc
    by_test false true e = cc
    by_test false false e = cc

    turn : (p : Option Object) → object_at old id ≡ p → new ≡ absent old id
    turn None there = let both : ◌≡◌ {A = Result Heap Refusal} (Err refusals.NotDiscardable) (Ok new) = sym (discard_is old id None there) ∙ done in cc
    turn (Some o) there = by_test _ _ (sym (discard_is old id _ there) ∙ done)
