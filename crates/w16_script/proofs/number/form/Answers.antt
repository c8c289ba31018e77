use Rattle.w16_script.proofs.{Common.arith, ArgumentLemmas.IfNone-weaker, OneNumberLemmas.no_sum}
use Rattle.w16_script.proofs.number.form.Goals as goal

pub returns-in-Some-eq43-default-clause-none : goal.returns-in-Some-eq43-default-clause-none
returns-in-Some-eq43-default-clause-none c =
    IfNone-weaker c.sum.result
    (λ none n small form. no_sum c.args.value c.args.suffix.now c.in-Some-eq43-default.tail.now c.in-Some-eq43-default.field-0-0.now n c.in-Some-eq43-default.ensures.cases (omega arith) none small form)
    c.sum.ensures.none
