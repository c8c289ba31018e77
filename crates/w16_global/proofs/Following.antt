-- Selectors that follow their objects, one object further.
use Rattle.w16_global.proofs
use proofs.Common as C
use proofs.Common.{◌≡◌, ◌≢◌, ℕ, ◌+◌, ◌-◌, ◌<◌, ◌≤◌, ◌⊎◌, ◌||◌, ◌==◌, inl, inr, Bool, true, false, ◌&&◌, nat_le, nat_lt, List, [], ◌∷◌, length, get_or, take, Option, Some, None, option_map, refl, sym, ap, ◌∙◌, subst, arith, false≢true, nat_tests, is_member, Block, Heap, Object, object_at}
use proofs.Common.{bytes_at, descriptor_at, begins_in, told}
use proofs.Told.{placed_told, run_sized, told_labelled, told_more, vacated_told}
use Rattle.std.specs.FinMap as finmap
use Rattle.w16_selectors.specs.Descriptors as selectors

or_false : (b : Bool) → (b || false) ≡ b
or_false true = refl
or_false false = refl

or_true : (b : Bool) → (b || true) ≡ true
or_true true = refl
or_true false = refl

-- An object with bytes, where the look-ups found it.
record Found (heap : Heap) (slot at size : ℕ) : Type 0 where
  pub object : Object
  pub bytes : List ℕ
  pub there : object_at heap slot ≡ Some object
  pub has : object.bytes ≡ Some bytes
  pub long : length bytes ≡ size
  pub stands : finmap.get heap.places slot ≡ Some at

found_at : (heap : Heap) (slot at size : ℕ) → option_map (length {A = ℕ}) (bytes_at heap slot) ≡ Some size → finmap.get heap.places slot ≡ Some at → Found heap slot at size
found_at heap slot at size sized stands = of_object _ refl sized
  where
    of_bytes : (o : Object) → object_at heap slot ≡ Some o → (b : Option (List ℕ)) → o.bytes ≡ b → option_map (length {A = ℕ}) b ≡ Some size → Found heap slot at size
    of_bytes o there None has h = cc
    of_bytes o there (Some bytes) has h = record { object = o; bytes = bytes; there = there; has = has; long = (let same : length bytes ≡ size = cc in same); stands = stands }

    of_object : (p : Option Object) → object_at heap slot ≡ p → option_map (length {A = ℕ}) (elim p as (λ _. Option (List ℕ)) [ Some o ↦ o.bytes | None ↦ None ]) ≡ Some size → Found heap slot at size
    of_object None there h = cc
    of_object (Some o) there h = of_bytes o there _ refl h

-- two objects with bytes of which one begins in the other's are one
abbrev block_for : (heap : Heap) (slot at size : ℕ) → Found heap slot at size → (x : Block) × C.IsBlockOf heap x × (x.id ≡ slot) × (x.at ≡ at) × (x.size ≡ size)
block_for heap slot at size f = (
  record { id = slot; at = at; size = size; hold = C.hold_of_object f.object },
  record { object = f.object; bytes = f.bytes; is_there = f.there; has_bytes = f.has; place = sym (ap (λ (p : Option ℕ). C.unwrap_or p 0) f.stands); size = sym f.long; hold = refl },
  refl,
  refl,
  refl,
)

one_place : (heap : Heap) → C.IsHeap heap → (slot other at size place more : ℕ) → 0 < more → at ≤ place → place < at + size → Found heap slot at size → Found heap other place more → other ≢ slot → ⊥
one_place heap is slot other at size place more some from to f g n =
    let x = block_for heap slot at size f in
    let y = block_for heap other place more g in
    let apart = C.two_placed heap is x.0 y.0 x.1 y.1 (λ e. n (ap (λ b. b.id) (sym e))) in
    elim apart [ inl before ↦ omega arith | inr behind ↦ omega arith ]

module _ (h : C.Holding) (xs : List (Option C.Attributes)) (is : C.AreHandles (C.handles_of h xs 0)) (old : selectors.DescriptorTable) (are : C.AreLabelled xs old) where
  -- one more of a list of objects that have no bytes
  pub forgets_next : (ids : List ℕ) (i : ℕ) (now after : selectors.DescriptorTable) → i < length ids → bytes_at h.heap (get_or ids i 0) ≡ None → ((q : ℕ) → descriptor_at now q ≡ told h.heap xs (λ first. is_member first (take i ids)) old q)
      → ((q : ℕ) → descriptor_at after q ≡ C.vacated (get_or ids i 0) (C.slots_in xs (get_or ids i 0)) now q) → (q : ℕ) → descriptor_at after q ≡ told h.heap xs (λ first. is_member first (take (i + 1) ids)) old q
  forgets_next ids i now after lt gone so_far after_is =
      let id : ℕ = get_or ids i 0 in
      told_more h xs is (λ first. is_member first (take i ids)) (λ first. id == first) (λ first. is_member first (take (i + 1) ids)) old now after
      (λ first. ap (is_member first) (C.take_more ids i 0 lt) ∙ C.list_any-append (λ r. r == first) (take i ids) (id ∷ []) ∙ ap (λ b. is_member first (take i ids) || b) (or_false (id == first)))
      so_far (λ q. after_is q ∙ vacated_told h xs is now (told_labelled h xs is (λ first. is_member first (take i ids)) old now are so_far) id gone q)

  -- and one more of the objects that begin in a range, up to a place in it or where it ends
  module _ (begin from : ℕ) (block : Block) (above : begin ≤ from) (at_least : from ≤ block.at) (some : 0 < block.size)
      (stands : finmap.get h.heap.places block.id ≡ Some block.at) (sized : option_map (length {A = ℕ}) (bytes_at h.heap block.id) ≡ Some block.size)
      (lowest : (q : ℕ) → C.IfSome (finmap.get h.heap.places q) (λ at. (at < from) ⊎ (block.at ≤ at)))
      (now : selectors.DescriptorTable) (so_far : (q : ℕ) → descriptor_at now q ≡ told h.heap xs (begins_in h.heap begin from) old q) where
    f : Found h.heap block.id block.at block.size
    f = found_at h.heap block.id block.at block.size sized stands

    pub followed_labelled : C.AreLabelled xs now
    followed_labelled = told_labelled h xs is (begins_in h.heap begin from) old now are so_far

    module _ (next : ℕ) (past : block.at < next) (within : next ≤ C.block_end block) where
      abbrev by_place : ℕ → Option ℕ → Bool
      by_place to p = elim p [ None ↦ false | Some at ↦ nat_le begin at && nat_lt at to ]

      inside : (nat_le begin block.at && nat_lt block.at next) ≡ true
      inside = grind (arith, nat_tests)

      same_test : (at : ℕ) → (at < from) ⊎ (next ≤ at) → (nat_le begin at && nat_lt at next) ≡ (nat_le begin at && nat_lt at from)
      same_test at (inl low) = grind (arith, nat_tests)
      same_test at (inr high) = grind (arith, nat_tests)

      clash : (slot at : ℕ) → slot ≢ block.id → block.at ≤ at → at < next → finmap.get h.heap.places slot ≡ Some at → (b : Option (List ℕ)) → bytes_at h.heap slot ≡ b → ⊥
      clash slot at n low high here None e = absurd (false≢true (sym (ap C.is_some e) ∙ sym (is.heap.at_bytes slot) ∙ ap C.is_some here))
      clash slot at n low high here (Some bytes) e =
          let g : Found h.heap slot at (length bytes) = found_at h.heap slot at (length bytes) (ap (option_map (length {A = ℕ})) e) here in
          one_place h.heap is.heap block.id slot block.at block.size at (length bytes) (C.some_bytes h.heap is.heap slot bytes e) low (omega arith) f g n

      next_begins : (first : ℕ) → begins_in h.heap begin next first ≡ (begins_in h.heap begin from first || (block.id == first))
      next_begins first = elim (C.cases_eq first block.id) [
        | inl e ↦ ap (by_place next) (ap (finmap.get h.heap.places) e ∙ stands) ∙ inside ∙ sym (ap (λ b. begins_in h.heap begin from first || b) (C.eq-eqb block.id first (sym e)) ∙ or_true (begins_in h.heap begin from first))
        | inr n ↦ turn n (finmap.get h.heap.places first) refl (lowest first) ∙ sym (ap (λ b. begins_in h.heap begin from first || b) (C.ne_eqb block.id first (λ e. n (sym e))) ∙ or_false (begins_in h.heap begin from first))
      ]
        where
          beyond : (at : ℕ) → first ≢ block.id → finmap.get h.heap.places first ≡ Some at → (at < from) ⊎ (block.at ≤ at) → (at < from) ⊎ (next ≤ at)
          beyond at n there (inl low) = inl low
          beyond at n there (inr high) = elim (C.cases_lt at next) [
            | inl before ↦ absurd (clash first at n high before there (bytes_at h.heap first) refl)
            | inr behind ↦ inr behind
          ]

          turn : first ≢ block.id → (p : Option ℕ) → finmap.get h.heap.places first ≡ p → C.IfSome p (λ at. (at < from) ⊎ (block.at ≤ at)) → begins_in h.heap begin next first ≡ begins_in h.heap begin from first
          turn n None there low = ap (by_place next) there ∙ sym (ap (by_place from) there)
          turn n (Some at) there low = ap (by_place next) there ∙ same_test at (beyond at n there low) ∙ sym (ap (by_place from) there)

      pub further : (after : selectors.DescriptorTable) → ((q : ℕ) → descriptor_at after q ≡ C.placed block.id block.at block.size now q) → (q : ℕ) → descriptor_at after q ≡ told h.heap xs (begins_in h.heap begin next) old q
      further after after_is = told_more h xs is (begins_in h.heap begin from) (λ first. block.id == first) (begins_in h.heap begin next) old now after next_begins so_far (λ q. after_is q ∙ own q)
        where
          own : (q : ℕ) → C.placed block.id block.at block.size now q ≡ told h.heap xs (λ first. block.id == first) now q
          own q = subst (λ count. C.in_run block.id count (λ slot. Some (C.reaching (C.kind_at now slot) block.at block.size (slot - block.id))) now q ≡ told h.heap xs (λ first. block.id == first) now q)
              (run_sized h xs is block.id block.size sized) (placed_told h xs is now followed_labelled block.id block.at block.size sized stands q)
