use Rattle.w16_reloc.proofs.Common.{◌≡◌, ◌∙◌, sym, false, arith, nat_eq, err_from_is_err_and}
use Rattle.w16_reloc.proofs.ChainLemmas.{chain_is_done, chain_goes_on, chain_stops, chain_returns}
use Rattle.w16_reloc.proofs.chain.take_links.Goals as goal

pub returns-then-at-clause-step : goal.returns-then-at-clause-step
returns-then-at-clause-step c = λ sites are.
    let so_far = c.loop.invariant.1 sites are in
    (so_far.0, sym so_far.2 ∙ chain_is_done _ _ _ c.loop.counter _ _ c.loop-test.true c.if-at.true, so_far.1)

pub returns-in_err-take-clause-step : goal.returns-in_err-take-clause-step
returns-in_err-take-clause-step c = λ sites are.
    let so_far = c.loop.invariant.1 sites are in
    let p = err_from_is_err_and c.from_residual.result c.from_residual.ensures.1 in
    let on : nat_eq c.loop.at 65535 ≡ false = grind (arith, c.if-at.false) in
    let said = rw c.loop.invariant.0 at c.in_err-take.ensures.step so_far.0 so_far.1 in
    rw (p.1, p.2) (sym so_far.2 ∙ chain_stops _ _ _ c.loop.counter _ _ _ c.loop-test.true on said)

pub loop-preserved : goal.loop-preserved
loop-preserved c = (
  c.take.auto.marks ∙ c.loop.invariant.0,
  λ sites are.
      let so_far = c.loop.invariant.1 sites are in
      let on : nat_eq c.loop.at 65535 ≡ false = grind (arith, c.if-at.false) in
      let step = c.in_ok-take.ensures.step so_far.0 so_far.1 in
      let said = rw c.loop.invariant.0 at step.1 in
      (step.0, step.2, rw c.word-at.ensures (sym (chain_goes_on _ _ _ c.loop.counter _ _ _ c.loop-test.true on said) ∙ so_far.2)),
)

pub returns-clause-step : goal.returns-clause-step
returns-clause-step c = λ sites are.
    let so_far = c.loop.invariant.1 sites are in
    sym so_far.2 ∙ chain_returns _ _ _ c.loop.counter _ _ c.loop-test.false
