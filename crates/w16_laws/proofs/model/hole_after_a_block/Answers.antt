use Rattle.w16_laws.proofs.model.hole_after_a_block.Goals as goal
use Rattle.w16_laws.proofs.Holes.{hole_after_law}

pub returns : goal.returns
returns c = hole_after_law
