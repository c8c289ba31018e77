use Rattle.w16_lru.proofs.Common.{◌≡◌, ℕ, zero, suc, ◌+◌, List, [], ◌∷◌, ◌++◌, sym, ap, ◌∙◌, arith, range_with_len}
use Rattle.w16_lru.proofs.each_alone.Goals as goal
use Rattle.w16_lru.proofs.each_alone.Goals.{else-loop-id-test, then-loop-id-test+in_ok-push+else-id-cap}

range_more : (a n b : ℕ) → a + n ≡ b → range_with_len a (suc n) ≡ range_with_len a n ++ b ∷ []
range_more a zero b e = let same : a ≡ b = omega arith in ap (λ k. k ∷ []) same
range_more a (suc n) b e = ap (λ l. a ∷ l) (range_more (a + 1) n b (omega arith))

one_more : (links new : List ℕ) (id last : ℕ) → links ≡ range_with_len 0 id → id ≡ last → new ≡ links ++ id ∷ [] → new ≡ range_with_len 0 (last + 1)
one_more links new id last e f g =
    g ∙ ap (λ l. l ++ id ∷ []) e ∙ sym (range_more 0 id id (omega arith)) ∙ ap (range_with_len 0) (let h : suc id ≡ last + 1 = omega arith in h)

pub loop-id-preserved : goal.loop-id-preserved
loop-id-preserved g c = one_more c.loop-id.links.items _ c.loop-id.id _ c.loop-id.invariant (omega arith) c.in_ok-push.ensures.items

pub returns : goal.returns
returns g c = elim c.loop-id-test.branch [
  | else-loop-id-test w ↦ let le = c.loop-id.auto.id-end in let lt = w.loop-id-test.false in absurd (omega arith)
  | then-loop-id-test+in_ok-push+else-id-cap w ↦
      one_more _ _ _ _ c.loop-id.invariant (let le = w.loop-id-test.true in omega arith)
      (ap (λ l. l.items) w.links-is ∙ w.in_ok-push.ensures.items)
]
