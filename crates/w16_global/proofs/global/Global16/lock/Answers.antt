use Rattle.w16_global.proofs.Joining.{lock_joined}
use Rattle.w16_global.proofs.global.Global16.lock.Goals as goal

pub invariant_of-self : goal.invariant_of-self
invariant_of-self g c = lock_joined c.self.invariant _ c.lock.ensures.cap c.args.slot c.lock.result c.lock.ensures.ok c.lock.ensures.err
