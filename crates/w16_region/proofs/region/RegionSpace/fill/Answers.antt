use Rattle.w16_region.proofs.Common.{lengths, repeated, common_steps, arith}
use Rattle.w16_region.proofs.region.RegionSpace.fill.Goals as goal

pub returns-clause-bytes : goal.returns-clause-bytes
unfolding repeated
returns-clause-bytes g c = grind (arith, common_steps, lengths)
