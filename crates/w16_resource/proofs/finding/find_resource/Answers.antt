-- The table's place is that of the module.
use Rattle.w16_resource.proofs.{Common.ap, Common.unwrap_or, Common.◌∙◌, Fetched.place_found}
use Rattle.w16_resource.proofs.finding.find_resource.Goals as goal

pub returns-in-Some : goal.returns-in-Some
returns-in-Some g c = λ rest. c.unwrap_or.ensures ∙ ap (λ p. unwrap_or p 0) c.place_of.ensures
    ∙ place_found _ _ c.in-Some.loaded.now c.module-in-Some.result.now c.module-in-Some.ensures _ c.in-Some.ensures
