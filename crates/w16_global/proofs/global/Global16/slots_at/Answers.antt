use Rattle.w16_global.proofs.Common.{◌≡◌, ◌∙◌, List, Option, ap, arith, Attributes, slots_at}
use Rattle.w16_global.specs.Housed.{slots_in}
use Rattle.w16_global.proofs.Owners.{are_handles, handles_shown, run_there, slots_shown}
use Rattle.w16_global.proofs.global.Global16.slots_at.Goals as goal

pub returns-clause-value : goal.returns-clause-value
returns-clause-value g c = c.slots_of.ensures ∙ ap (λ xs. slots_in xs c.args.slot) c.deref.ensures.value ∙ slots_shown c.self.invariant (handles_shown c.self.view_is) _

pub returns-clause-few : goal.returns-clause-few
returns-clause-few g c =
    let value = returns-clause-value g c in
    let fits = (run_there c.args.self.now.handles (are_handles c.self.invariant (handles_shown c.self.view_is)) c.args.slot c.requires).2 in
    omega (arith, value, fits)
