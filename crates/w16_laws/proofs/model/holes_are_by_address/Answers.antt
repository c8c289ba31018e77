use Rattle.w16_laws.proofs.model.holes_are_by_address.Goals as goal
use Rattle.w16_laws.proofs.Holes.{rising_law}

pub returns : goal.returns
returns c = rising_law
