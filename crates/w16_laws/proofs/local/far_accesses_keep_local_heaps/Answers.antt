use Rattle.w16_laws.proofs.local.far_accesses_keep_local_heaps.Goals as goal
use Rattle.w16_laws.proofs.LocalHeaps.{local_far_law}

pub returns : goal.returns
returns c = local_far_law
