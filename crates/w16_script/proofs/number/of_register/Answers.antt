use Rattle.w16_script.proofs.{ArgumentLemmas.IfNone-weaker, RegisterLemmas.BeginsWith-from, RegisterLemmas.no_form}
use Rattle.w16_script.proofs.number.of_register.Goals as goal

pub returns-clause-none : goal.returns-clause-none
returns-clause-none c =
    IfNone-weaker c.form.result
    (λ none n small number. no_form c.get.result c.in_ok-register.ensures.found c.get.ensures (none n small) number)
    c.form.ensures.none

pub returns-in_err-register-clause-none : goal.returns-in_err-register-clause-none
returns-in_err-register-clause-none c =
    rw c.from_residual.ensures (λ n small number. c.in_err-register.ensures.none number.register number.suffix (BeginsWith-from number))
