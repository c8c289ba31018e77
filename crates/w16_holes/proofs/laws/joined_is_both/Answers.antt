use Rattle.w16_holes.proofs.Sets.{joined_law}
use Rattle.w16_holes.proofs.laws.joined_is_both.Goals as goal

pub returns : goal.returns
returns c = joined_law
