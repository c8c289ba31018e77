use Rattle.w16_global.proofs.Common.{◌≡◌, Some, ◌∙◌, refl, sym, ap, access_fault}
use Rattle.w16_global.proofs.Reach.{resolved, known, fault_of, handed_on}
use Rattle.w16_global.proofs.Owners.{handles_shown}
use Rattle.w16_global.proofs.global.Global16.reach.Goals as goal

pub number_at-number-requires : goal.number_at-number-requires
number_at-number-requires g c =
    (known c.self.invariant (handles_shown c.self.view_is) c.args.selector c.args.write c.args.offset c.args.n c.count_of.result c.count_of.ensures c.in_ok-resolve.field-0 (sym c.in_ok-resolve.was ∙ c.resolve.ensures.value) _ _ c.slot_of-slot.ensures.value refl).0

pub overflow_sub-result : goal.overflow_sub-result
overflow_sub-result g c =
    (known c.self.invariant (handles_shown c.self.view_is) c.args.selector c.args.write c.args.offset c.args.n
    c.count_of.result c.count_of.ensures c.in_ok-resolve.field-0 (sym c.in_ok-resolve.was ∙ c.resolve.ensures.value)
    _ _ c.slot_of-slot.ensures.value c.number_at-number.ensures).1

pub returns : goal.returns
returns g c =
    let k = known c.self.invariant (handles_shown c.self.view_is) _ _ _ _
    c.count_of.result c.count_of.ensures c.in_ok-resolve.field-0 (sym c.in_ok-resolve.was ∙ c.resolve.ensures.value)
    _ _ c.slot_of-slot.ensures.value c.number_at-number.ensures in
    record { ok = (k.2, k.3, k.4); few = k.5; err = tt }

pub returns-in_err-resolve-clause-err : goal.returns-in_err-resolve-clause-err
returns-in_err-resolve-clause-err g c =
    let fault : access_fault c.args.self.now.handles c.args.write c.args.selector c.args.offset c.args.n ≡ Some c.in_err-resolve.field-0.0 =
    resolved c.self.invariant (handles_shown c.self.view_is) c.args.selector c.args.write c.args.offset c.args.n c.count_of.result c.count_of.ensures ∙ ap fault_of (sym c.resolve.ensures.value ∙ c.in_err-resolve.was) in
    handed_on (λ fault. access_fault c.args.self.now.handles c.args.write c.args.selector c.args.offset c.args.n ≡ Some fault) _ _ c.from_residual.ensures.1 fault
