use Rattle.std.proofs.Common.{refl}
use Rattle.w16_compact.proofs.AllLoose.{room_is, told_is}
use Rattle.w16_compact.proofs.gap_rooms.fill_whole.Goals as goal

pub returns-clause-value : goal.returns-clause-value
returns-clause-value g c = room_is c.args.blocks.now c.reveal_order.ensures c.args.h _ c.own_size.ensures c.requires.loose c.free.ensures.value refl

pub returns-clause-told : goal.returns-clause-told
returns-clause-told g c =
    told_is c.args.blocks.now c.reveal_order.ensures c.args.h c.own_size.result c.own_size.ensures c.requires.loose c.free.ensures.value
    _ c.args.rooms.now refl c.cap-gap.ensures c.requires.gap_of c.requires.rooms (c.fill.ensures.after (λ y e. e)) refl
