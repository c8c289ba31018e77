use Rattle.w16_region.proofs.Common.{rules, repeated}
use Rattle.w16_region.proofs.region.Region.new.Goals as goal

pub returns-clause-bytes : goal.returns-clause-bytes
unfolding repeated
returns-clause-bytes g c = search rules
