use Rattle.w16_kernel.proofs.Lent.{left_by}
use Rattle.w16_kernel.proofs.kernel.Kernel.find.Goals as goal

pub invariant_of-self : goal.invariant_of-self
invariant_of-self g c = left_by c.self.invariant c.args.write c.args.pointer c.args.count c.find.result c.find.ensures.found
