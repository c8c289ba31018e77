use Rattle.w16_reloc.proofs.Common.{◌≡◌, false, arith, nat_eq, err_from_is_err_and}
use Rattle.w16_reloc.proofs.ChainLemmas.{chain_is_empty, chain_begins, chain_fails}
use Rattle.w16_reloc.proofs.chain.take_chain.Goals as goal

pub returns-then-head-eq-END-clause-step : goal.returns-then-head-eq-END-clause-step
returns-then-head-eq-END-clause-step c = λ sites are. (sites, chain_is_empty _ _ _ _ _ c.if-head-eq-END.true, are)

pub returns-in_err-take-clause-step : goal.returns-in_err-take-clause-step
returns-in_err-take-clause-step c = λ sites are.
    let p = err_from_is_err_and c.from_residual.result c.from_residual.ensures.1 in
    let on : nat_eq c.args.head 65535 ≡ false = grind (arith, c.if-head-eq-END.false) in
    let said = rw c.requires.same at c.in_err-take.ensures.step sites are in
    rw (p.1, p.2) (chain_fails _ _ _ _ _ _ on said)

pub returns-clause-step : goal.returns-clause-step
returns-clause-step c = λ sites are.
    let on : nat_eq c.args.head 65535 ≡ false = grind (arith, c.if-head-eq-END.false) in
    let step = c.in_ok-take.ensures.step sites are in
    let said = rw c.requires.same at step.1 in
    rw (chain_begins c.args.bytes.now c.args.width _ sites _ c.args.head on said) (rw c.word.ensures at c.take_links.ensures.step step.0 step.2)
