use Rattle.w16_script.proofs.number.sum.Goals as goal

pub returns-in_err-more-clause-none : goal.returns-in_err-more-clause-none
returns-in_err-more-clause-none c =
    rw c.from_residual.ensures (λ more reads small. c.in_err-more.ensures.none more reads)
