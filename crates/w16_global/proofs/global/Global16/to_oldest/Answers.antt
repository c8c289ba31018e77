use Rattle.w16_global.proofs.Joining.{oldest_joined}
use Rattle.w16_global.proofs.global.Global16.to_oldest.Goals as goal

pub invariant_of-self : goal.invariant_of-self
invariant_of-self g c = oldest_joined c.self.invariant _ c.to_oldest.ensures.cap c.args.slot c.to_oldest.result c.to_oldest.ensures.ok c.to_oldest.ensures.err
