-- A slot's resource goes, or all stays.
use Rattle.w16_resource.proofs.Common.{ap, is_some, load_in, not, sym, ◌∙◌}
use Rattle.w16_resource.proofs.{Steps.seen, Swept.no_module, Swept.mapped_some}
use Rattle.w16_resource.proofs.parts.Loading.sweep_slot.Goals as goal

pub returns-then-is_none : goal.returns-then-is_none
returns-then-is_none g c =
    let none = ap is_some (sym c.module.ensures) ∙ mapped_some c.module.result (λ m. m.now) ∙ c.is_none.ensures ∙ ap not c.if-is_none.true in
    rw (← c.self.view_is, c.release_slot.ensures, c.remove.ensures) (no_module (seen c.self.view_is) c.args.slot (load_in c.in-Some.load) (sym c.in-Some.ensures) none)
