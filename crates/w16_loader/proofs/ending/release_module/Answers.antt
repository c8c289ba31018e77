-- The module goes, and then its objects.
use Rattle.w16_loader.proofs.Common.{ap, ◌∙◌, Module}
use Rattle.w16_loader.proofs.Endings.{module_gone, fewer_modules}
use Rattle.w16_loader.proofs.ending.release_module.Goals as goal

pub returns-in-Some-clause-gone : goal.returns-in-Some-clause-gone
returns-in-Some-clause-gone g c = λ rest.
    module_gone rest _ _ _ _ _ _ _
    c.in-Some.ensures.found c.in-Some.ensures.gone (c.slots.ensures.slots ∙ ap (λ m. m.slots) c.deref.ensures) c.release_slots.ensures.gone

pub returns-in-Some-clause-fewer : goal.returns-in-Some-clause-fewer
returns-in-Some-clause-fewer g c = fewer_modules _ _ _ c.in-Some.loaded.value c.in-Some.ensures.found c.in-Some.ensures.gone
