use Rattle.w16_local.proofs.Common.{subst, IsLocalTable}
use Rattle.w16_local.proofs.heap.LocalHeap.reveal_local.Goals as goal

pub returns : goal.returns
returns g c = subst IsLocalTable c.self.view_is c.self.invariant.is_local
