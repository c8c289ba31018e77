use Rattle.w16_laws.proofs.model.room_is_largest.Goals as goal
use Rattle.w16_laws.proofs.Holes.{room_is_largest}

pub returns : goal.returns
returns c = room_is_largest
