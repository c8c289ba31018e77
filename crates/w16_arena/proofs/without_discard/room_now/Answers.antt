use Rattle.w16_arena.proofs.Common.{◌∙◌, room_whole}
use Rattle.w16_arena.proofs.without_discard.room_now.Goals as goal

pub returns-clause-value : goal.returns-clause-value
returns-clause-value g c = let l = c.args.blocks.now in c.room_after.ensures.value ∙ room_whole l.lo l.hi l.blocks c.args.order.now.ids
