use Rattle.w16_global.proofs.Owners.{are_handles, handles_shown}
use Rattle.w16_global.proofs.global.Global16.reveal_handles.Goals as goal

pub returns : goal.returns
returns g c = are_handles c.self.invariant (handles_shown c.self.view_is)
