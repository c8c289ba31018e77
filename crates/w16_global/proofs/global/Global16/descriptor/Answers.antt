use Rattle.w16_global.proofs.Common.{◌≡◌, ◌∙◌, None, Some, sym, rules}
use Rattle.w16_global.specs.Peek.{selector_descriptor}
use Rattle.w16_global.proofs.{Reach.descriptor_known, Owners.handles_shown}
use Rattle.w16_global.proofs.global.Global16.descriptor.Goals as goal

pub returns-in_err-found : goal.returns-in_err-found
returns-in_err-found g c =
    let none = descriptor_known c.self.invariant (handles_shown c.self.view_is) c.args.selector None (sym c.in_err-found.was ∙ c.find.ensures.value) in
    search (rules, none)

pub returns : goal.returns
returns g c = rw (c.offset_in.ensures, c.global_handle.ensures, c.is_code.ensures)
    (sym (descriptor_known c.self.invariant (handles_shown c.self.view_is) _ (Some c.in_ok-found.found) (sym c.in_ok-found.was ∙ c.find.ensures.value)))
