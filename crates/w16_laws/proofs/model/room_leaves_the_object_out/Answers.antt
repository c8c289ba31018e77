use Rattle.w16_laws.proofs.LeftOut.{left_out_law}
use Rattle.w16_laws.proofs.model.room_leaves_the_object_out.Goals as goal

pub returns : goal.returns
returns c = left_out_law
