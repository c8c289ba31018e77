use Rattle.w16_holes.proofs.Sets.{taken_law}
use Rattle.w16_holes.proofs.laws.taken_is_the_rest.Goals as goal

pub returns : goal.returns
returns c = taken_law
