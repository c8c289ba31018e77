use Rattle.w16_global.proofs.{Common.ap, Common.arith, Common.Holding, Common.◌+◌, Joining.entered_joined, Joining.entered_known, Joining.given_unmoved, Joined.unused_in, Owners.free_selector, Owners.handles_shown}
use Rattle.w16_global.proofs.global.Global16.enter.Goals as goal

pub invariant_of-self : goal.invariant_of-self
invariant_of-self g c =
    entered_joined c.self.invariant c.enter.new.self (ap (λ h. h.cap) c.enter.ensures) c.args.slot c.args.attributes (handles_shown c.self.view_is) c.requires.free c.requires.some c.requires.run c.requires.sized c.args.kind c.kind_for.result c.kind_for.ensures c.take_run.new.selectors
    (ap (λ h. h.heap) c.enter.ensures) c.take_run.ensures.taken c.take_run.ensures.many

pub returns-clause-rest : goal.returns-clause-rest
returns-clause-rest g c = given_unmoved c.self.invariant c.enter.new.self (ap (λ h. h.cap) c.enter.ensures) c.args.slot c.args.attributes (handles_shown c.self.view_is) c.requires.free c.requires.some

pub enter-requires-clause-free : goal.enter-requires-clause-free
enter-requires-clause-free g c = unused_in c.self.inside.objects c.self.inside.attributes.items c.self.inside.selectors c.self.invariant (handles_shown c.self.view_is) _ c.args.attributes.slots c.requires.some c.requires.free

pub take_run-requires-clause-free : goal.take_run-requires-clause-free
take_run-requires-clause-free g c = λ number below. free_selector c.self.invariant (handles_shown c.self.view_is) _ (c.requires.free _ below)

pub take_run-requires-clause-few : goal.take_run-requires-clause-few
take_run-requires-clause-few g c = (c.requires.sized.0, omega (arith, c.self.invariant.selectors_many, c.self.invariant.some, c.self.invariant.handles.few))

pub returns-clause-entered : goal.returns-clause-entered
returns-clause-entered g c = entered_known c.self.invariant c.enter.new.self (ap (λ h. h.cap) c.enter.ensures) c.args.slot c.args.attributes (handles_shown c.self.view_is) c.requires.free c.requires.some c.args.kind (ap (λ h. h.heap) c.enter.ensures)
