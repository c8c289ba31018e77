use Rattle.std.proofs.Common.{arith}
use Rattle.w16_script.proofs.OneNumberLemmas.{number-same}
use Rattle.w16_script.proofs.arguments.number_up_to.Goals as goal

pub returns-else-number-most-clause-none : goal.returns-else-number-most-clause-none
returns-else-number-most-clause-none c = λ n reads small.
    let same = number-same c.args.registers.now c.args.word.now n c.in_ok-number.number reads c.in_ok-number.ensures.found in
    omega (arith, same, small)

pub returns-in_err-number-clause-none : goal.returns-in_err-number-clause-none
returns-in_err-number-clause-none c = rw c.from_residual.ensures (λ n reads small. c.in_err-number.ensures.none n reads)
