use Rattle.std.proofs.Common.{refl}
use Rattle.w16_loader.proofs.fault.LoadFaultFromAllocError.from.Goals as goal

pub returns : goal.returns
returns c = refl
