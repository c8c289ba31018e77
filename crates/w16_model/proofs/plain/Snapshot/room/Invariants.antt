use Rattle.w16_model.proofs.Common.{◌≡◌, max, map, drop, is_pinned, room, room_from, largest}
use Rattle.w16_model.proofs.Folds.{ends_of}
use Rattle.w16_model.proofs.plain.Snapshot.room.Given as goal

abbrev pub invariant-loop-block : goal.invariant-loop-block
invariant-loop-block l = max l.most (largest (map (room_from l.self.hi l.block-items) (ends_of is_pinned (drop l.block-index l.block-items)))) ≡ room l.self.lo l.self.hi l.block-items
