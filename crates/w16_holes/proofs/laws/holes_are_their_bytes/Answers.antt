use Rattle.w16_holes.proofs.Sets.{bytes_law}
use Rattle.w16_holes.proofs.laws.holes_are_their_bytes.Goals as goal

pub returns : goal.returns
returns c = bytes_law
