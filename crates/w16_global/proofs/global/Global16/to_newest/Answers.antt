use Rattle.w16_global.proofs.Joining.{newest_joined}
use Rattle.w16_global.proofs.global.Global16.to_newest.Goals as goal

pub invariant_of-self : goal.invariant_of-self
invariant_of-self g c = newest_joined c.self.invariant _ c.to_newest.ensures.cap c.args.slot c.to_newest.result c.to_newest.ensures.ok c.to_newest.ensures.err
