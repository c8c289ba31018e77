use Rattle.w16_model.proofs.{Common.◌∙◌, Trials.placed_without}
use Rattle.w16_model.proofs.plain.Snapshot.room_for.Goals as goal

pub room-requires : goal.room-requires
room-requires c = placed_without _ _ c.args.self.now.blocks.now _ _ _ c.requires (c.deref-2.ensures.value ∙ c.in_ok-blocks.ensures)
