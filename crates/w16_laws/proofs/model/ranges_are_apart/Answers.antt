use Rattle.w16_model.proofs.Ranges.{range_law}
use Rattle.w16_laws.proofs.model.ranges_are_apart.Goals as goal

pub returns : goal.returns
returns c = range_law
