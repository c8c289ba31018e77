use Rattle.w16_script.proofs.text.number_behind.Goals as goal

pub returns-in_err-number-clause-none : goal.returns-in_err-number-clause-none
returns-in_err-number-clause-none c = rw c.from_residual.ensures (λ n reads small. c.in_err-number.ensures.none n reads)
