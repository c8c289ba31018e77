-- What a step leaves of the objects that it isn't about.
use Rattle.w16_model.proofs
use proofs.Common as C
use proofs.Common.{◌≡◌, ◌≢◌, ℕ, ◌≤◌, inl, inr, Bool, true, false, cond, not, ◌&&◌, ◌||◌, List, [], ◌∷◌, take, fold, Option, Some, None, option_map, is_some, refl, sym, ap, ◌∙◌, subst, arith, false≢true, Block, Loose, Kind, Fixed, Discardable, Heap, Object, blocks, object_at}
use proofs.Common.{is_discardable, eligible, is_about, is_pinned_id, absent, discarded}
use proofs.Gaps.{Member, member_filter}
use proofs.Heaps.{IsBlockOf, block_member, untied, get-update_other, get-update_same}
use proofs.Discards.{is_member-true, true-is_member, eligible_loose, from_take}
use Rattle.std.specs.FinMap as finmap

-- an object without its bytes
abbrev bare : Object → Object
bare o = record o { bytes = None }

absents_other : (ids : List ℕ) (heap : Heap) (q : ℕ) → (Member q ids → ⊥) → object_at (fold absent heap ids) q ≡ object_at heap q
absents_other [] heap q out = refl
absents_other (id ∷ ids) heap q out = absents_other ids _ q (λ m. out (inr m)) ∙ get-update_other _ id bare q (λ e. out (inl e))

bare_twice : (o : Option Object) → option_map bare (option_map bare o) ≡ option_map bare o
bare_twice None = refl
bare_twice (Some o) = refl

here : (heap : Heap) (id q : ℕ) → q ≡ id → object_at (absent heap id) q ≡ option_map bare (object_at heap q)
here heap id q e = ap (λ k. object_at (absent heap id) k) e ∙ get-update_same heap.objects id bare ∙ ap (λ k. option_map bare (object_at heap k)) (sym e)

-- a discarded object has no bytes, and is otherwise the same
absents_here : (ids : List ℕ) (heap : Heap) (q : ℕ) → Member q ids → object_at (fold absent heap ids) q ≡ option_map bare (object_at heap q)
absents_here [] heap q m = absurd m
absents_here (id ∷ ids) heap q (inl e) = elim (C.cases_Bool (C.is_member q ids)) [
  | inl t ↦ absents_here ids _ q (is_member-true q ids t) ∙ ap (option_map bare) (here heap id q e) ∙ bare_twice _
  | inr t ↦ absents_other ids _ q (λ m. false≢true (sym t ∙ true-is_member q ids m)) ∙ here heap id q e
]
absents_here (id ∷ ids) heap q (inr m) = elim (C.cases_eq q id) [
  | inl e ↦ absents_here ids _ q m ∙ ap (option_map bare) (here heap id q e) ∙ bare_twice _
  | inr d ↦ absents_here ids _ q m ∙ ap (option_map bare) (get-update_other _ id bare q d)
]

module _ (old : Heap) (is : C.IsHeap old) (k : ℕ) (h : Option ℕ) where
  abbrev pub ids : List ℕ
  ids = take k (eligible (blocks old) old.order h)

  abbrev Discarded : ℕ → Object → Type 0
  Discarded q o = (object_at old q ≡ Some o) × (o.kind ≡ Discardable) × (o.locks ≡ 0) × (is_some o.bytes ≡ true)

  unlocked : (q : ℕ) (o : Object) (bytes : List ℕ) → object_at old q ≡ Some o → o.bytes ≡ Some bytes → Member q (eligible (blocks old) old.order h) → o.locks ≡ 0
  unlocked q o bytes there has m =
      let x : Block = record { id = q; at = C.unwrap_or (finmap.get old.places q) 0; size = C.length bytes; hold = C.hold_of_object o } in
      let block : IsBlockOf old x = record { object = o; bytes = bytes; is_there = there; has_bytes = has; place = refl; size = refl; hold = refl } in
      free (C.is_fixed o.kind) o.locks (λ t. eligible_loose (blocks old) old.order h x (block_member old x block) m (turn (C.is_pinned_object o) t))
    where
      turn : (b : Bool) → b ≡ true → C.holds_still (cond b C.Pinned Loose) ≡ true
      turn true t = refl
      turn false t = absurd (false≢true t)

      free : (f : Bool) (n : ℕ) → ((f || C.nat_lt 0 n) ≡ true → ⊥) → n ≡ 0
      free true n g = absurd (g refl)
      free false n g = elim (C.cases_Bool (C.nat_lt 0 n)) [ inl t ↦ absurd (g t) | inr t ↦ let le : n ≤ 0 = C.ltb-false 0 n t in omega arith ]

  -- what is discarded is discardable, with bytes, and not locked
  discarded_is : (q : ℕ) → Member q ids → (o : Object) × Discarded q o
  discarded_is q m = from (object_at old q) refl (sym (is.in_order q) ∙ true-is_member q old.order (member_filter (λ id. not (is_pinned_id (blocks old) id) && not (is_about h id)) old.order q listed).0)
    where
      listed : Member q (eligible (blocks old) old.order h)
      listed = from_take k (eligible (blocks old) old.order h) q m

      kind_is : (kind : Kind) → is_discardable kind ≡ true → kind ≡ Discardable
      kind_is Fixed t = absurd (false≢true t)
      kind_is C.Moveable t = absurd (false≢true t)
      kind_is Discardable t = refl

      with_bytes : (o : Object) (b : Option (List ℕ)) → object_at old q ≡ Some o → o.bytes ≡ b → is_some b ≡ true → o.locks ≡ 0
      with_bytes o None there has t = absurd (false≢true t)
      with_bytes o (Some bytes) there has t = unlocked q o bytes there has listed

      from : (o : Option Object) → object_at old q ≡ o → C.is_in_order o ≡ true → (p : Object) × Discarded q p
      from None there t = absurd (false≢true t)
      from (Some o) there t = let parts : C.IsTrue (is_discardable o.kind) × C.IsTrue (is_some o.bytes) = C.and_parts (is_discardable o.kind) (is_some o.bytes) t in
          (o, (there, kind_is o.kind parts.0, with_bytes o o.bytes there refl parts.1, parts.1))

  -- none of them is the object that the request is about
  not_about : (q : ℕ) → Member q ids → is_about h q ≡ false
  not_about q m = C.not-true (is_about h q) (C.and_parts (not (is_pinned_id (blocks old) q)) (not (is_about h q)) (member_filter (λ id. not (is_pinned_id (blocks old) id) && not (is_about h id)) old.order q (from_take k (eligible (blocks old) old.order h) q m)).1).1

  keeps : (new : Heap) → ((q : ℕ) → h ≢ Some q → object_at new q ≡ object_at (discarded old k h) q) → C.KeepsOthers old h k new
  keeps new same = record {
    kept = λ q other out. same q other ∙ absents_other ids old q (λ m. out (true-is_member q ids m));
    discarded = λ q t.
        let m : Member q ids = is_member-true q ids t in
        let is_o : (o : Object) × Discarded q o = discarded_is q m in
        let gone : object_at new q ≡ Some (bare is_o.0) = same q (λ e. false≢true (sym (not_about q m) ∙ about h q e)) ∙ absents_here ids old q m ∙ ap (option_map bare) is_o.1.0 in
        subst (λ p. C.IsSomeAnd p (λ o. (o.kind ≡ Discardable) × (o.locks ≡ 0) × (is_some o.bytes ≡ true) × (object_at new q ≡ Some (bare o)))) (sym is_o.1.0) (is_o.1.1, is_o.1.2, is_o.1.3, gone);
  }
    where
      about : (p : Option ℕ) (q : ℕ) → p ≡ Some q → is_about p q ≡ true
      about None q e = cc
      about (Some i) q e = let same : i ≡ q = cc in C.eq-eqb q i (sym same)

pub others_law : C.OthersLaw
others_law old new is k = (
  (λ h options o order step. keeps old is k _ new (λ q other.
      ap (λ heap. object_at heap q) step.same
      ∙ C.get-insert C.nat_cmp_total (discarded old k (Some h)).objects h o q ∙ ap (λ b. cond b (Some o) (object_at (discarded old k (Some h)) q)) (untied q h (λ e. other (ap Some (sym e)))))),
  (λ step. keeps old is k None new (λ q other. ap (λ heap. object_at heap q) step.same)),
)
