use Rattle.w16_script.proofs.Common.{◌∷◌, ap, ◌∙◌, rules}
use Rattle.w16_script.proofs.ArgumentLemmas.{no_number_behind}
use Rattle.w16_script.proofs.text.label.Goals as goal

pub returns-in-None-clause-found : goal.returns-in-None-clause-found
returns-in-None-clause-found c = tt

pub returns-in-None-clause-none : goal.returns-in-None-clause-none
returns-in-None-clause-none c =
    let whole = c.in-Some-eq35-default.ensures.cases.0 ∙ ap (λ n. n ∷ c.in-Some-eq35-default.digits.now) c.in-Some-eq35-default.field-0-0-test in
    let none = no_number_behind c.args.word.now c.in-Some-eq35-default.digits.now whole c.in-None.ensures.none in
    search (rules, none)
