use Rattle.std.proofs.Common.{[]}
use Rattle.w16_script.proofs.RegisterLemmas.{BeginsWith-name}
use Rattle.w16_script.proofs.registers.register.Goals as goal

pub returns-in_err-register-clause-none : goal.returns-in_err-register-clause-none
returns-in_err-register-clause-none c =
    rw c.from_residual.ensures (λ r named. c.in_err-register.ensures.none r [] (BeginsWith-name c.args.word.now r named))
