use Rattle.w16_global.proofs.Common.{◌≡◌, ◌-◌, None, Some, sym, ◌∙◌, rules, part_of_selector}
use Rattle.w16_global.proofs.Owners.{handles_shown, part_known}
use Rattle.w16_global.proofs.global.Global16.part_of_selector.Goals as goal

pub returns-in_err-descriptor-clause-none : goal.returns-in_err-descriptor-clause-none
returns-in_err-descriptor-clause-none g c =
    let known = part_known c.self.invariant (handles_shown c.self.view_is) c.args.selector None (sym c.in_err-descriptor.was ∙ c.find.ensures.value) in
    search (rules, known)

pub returns-clause-found : goal.returns-clause-found
returns-clause-found g c =
    let slot = c.slot_of.ensures.value in
    part_known c.self.invariant (handles_shown c.self.view_is) _ (Some c.in_ok-descriptor.descriptor) (sym c.in_ok-descriptor.was ∙ c.find.ensures.value)
    ∙ (λ i. Some (record { slot = sym slot i - c.in_ok-descriptor.descriptor.number; number = c.in_ok-descriptor.descriptor.number }))
