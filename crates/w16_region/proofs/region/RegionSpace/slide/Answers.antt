use Rattle.w16_region.proofs.Common.{lengths, common_steps, arith}
use Rattle.w16_region.proofs.region.RegionSpace.slide.Goals as goal

pub invariant_of-self : goal.invariant_of-self
invariant_of-self g c = grind (arith, common_steps, lengths)

pub returns-clause-length : goal.returns-clause-length
returns-clause-length g c = grind (arith, common_steps, lengths)
