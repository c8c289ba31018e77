use Rattle.w16_model.proofs.Discards.{room-discarded}
use Rattle.w16_laws.proofs.model.discards_keep_their_promise.Goals as goal

pub returns : goal.returns
returns c = room-discarded
