use Rattle.w16_model.proofs.Discards.{more_discards_law}
use Rattle.w16_laws.proofs.model.more_discards_leave_no_less_room.Goals as goal

pub returns : goal.returns
returns c = more_discards_law
