use Rattle.w16_global.proofs.{Common.ap, Common.Holding, Joining.touched_joined}
use Rattle.w16_global.proofs.global.Global16.touch.Goals as goal

pub invariant_of-self : goal.invariant_of-self
invariant_of-self g c = touched_joined c.self.invariant c.touch.new.self (ap (λ h. h.cap) c.touch.ensures) c.args.slot (ap (λ h. h.heap) c.touch.ensures)
