use Rattle.w16_laws.proofs.Longer.{longer_law}
use Rattle.w16_laws.proofs.model.longer_range_has_no_less_room.Goals as goal

pub returns : goal.returns
returns c = longer_law
