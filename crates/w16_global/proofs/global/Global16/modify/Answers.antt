use Rattle.w16_global.proofs.Changing.{modified_joined}
use Rattle.w16_global.proofs.global.Global16.modify.Goals as goal

pub invariant_of-self : goal.invariant_of-self
invariant_of-self g c = modified_joined c.self.invariant _ c.modify.ensures.cap c.args.slot c.args.kind c.modify.result c.modify.ensures.ok c.modify.ensures.err
