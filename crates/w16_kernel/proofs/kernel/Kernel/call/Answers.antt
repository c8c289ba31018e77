use Rattle.w16_kernel.proofs.Rooms.{has_room}
use Rattle.w16_kernel.proofs.kernel.Kernel.call.Goals as goal

pub made-requires-clause-room : goal.made-requires-clause-room
made-requires-clause-room g c = has_room _ c.told-room c.requires
