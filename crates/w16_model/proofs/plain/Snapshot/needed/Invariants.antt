use Rattle.w16_model.proofs.Common.{◌≡◌, ◌+◌, ◌-◌, nat_le, find, range_with_len, room_for, snapshot}
use Rattle.w16_model.proofs.plain.Snapshot.needed.Given as goal

abbrev pub invariant-loop-count : goal.invariant-loop-count
invariant-loop-count l =
    find (λ k. nat_le l.size (room_for (snapshot l.self.lo l.self.hi l.self.blocks.now l.self.order.now) k l.about)) (range_with_len l.count (l.most + 1 - l.count))
    ≡ find (λ k. nat_le l.size (room_for (snapshot l.self.lo l.self.hi l.self.blocks.now l.self.order.now) k l.about)) (range_with_len 0 (l.most + 1))
