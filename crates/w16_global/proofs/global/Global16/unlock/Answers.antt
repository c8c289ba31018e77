use Rattle.w16_global.proofs.Joining.{unlock_joined}
use Rattle.w16_global.proofs.global.Global16.unlock.Goals as goal

pub invariant_of-self : goal.invariant_of-self
invariant_of-self g c = unlock_joined c.self.invariant _ c.unlock.ensures.cap c.args.slot c.unlock.result c.unlock.ensures.ok c.unlock.ensures.err
