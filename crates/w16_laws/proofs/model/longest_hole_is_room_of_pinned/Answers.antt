use Rattle.w16_model.proofs.Pinned.{pinned_law}
use Rattle.w16_laws.proofs.model.longest_hole_is_room_of_pinned.Goals as goal

pub returns : goal.returns
returns c = pinned_law
