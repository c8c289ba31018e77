use Rattle.w16_model.proofs.Common.{refl, false≢true, Misses, block_end}
use Rattle.w16_model.proofs.Folds.{pairs_left, pairs_fail}
use Rattle.w16_model.proofs.plain.Snapshot.are_apart.Goals as goal

pub returns-then-not-misses_all : goal.returns-then-not-misses_all
returns-then-not-misses_all c = (
  (λ e. absurd (false≢true e)),
  (λ pairs. absurd (pairs_fail (λ x y. Misses x.at x.size y.at (block_end y)) c.in-Some.first.now c.in-Some.later.now _ _ c.in-Some.ensures.cases.0
      (λ each. false≢true (c.if-not-misses_all.ensures.1 each)) c.loop-first.invariant pairs)),
)

pub loop-first-preserved : goal.loop-first-preserved
loop-first-preserved c = pairs_left (λ x y. Misses x.at x.size y.at (block_end y)) c.in-Some.first.now _ _ _ c.in-Some.ensures.cases.0
    (c.if-not-misses_all.ensures.0 refl) c.loop-first.invariant
