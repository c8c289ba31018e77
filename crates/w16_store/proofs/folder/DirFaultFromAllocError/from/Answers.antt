use Rattle.std.proofs.Common.{refl}
use Rattle.w16_store.proofs.folder.DirFaultFromAllocError.from.Goals as goal

pub returns : goal.returns
returns c = refl
