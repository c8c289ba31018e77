use Rattle.w16_model.proofs.Common.{◌+◌, nat_le, arith, lt-leb, room_for, snapshot}
use Rattle.w16_model.proofs.Trials.{find-passed}
use Rattle.w16_model.proofs.plain.Snapshot.needed.Goals as goal

pub loop-count-preserved : goal.loop-count-preserved
loop-count-preserved c =
    find-passed (λ k. nat_le c.args.size (room_for (snapshot c.args.self.now.lo c.args.self.now.hi c.args.self.now.blocks.now c.args.self.now.order.now) k c.args.about)) (c.len-most.result + 1) c.loop-count.count _ (omega arith)
    (lt-leb c.args.size _ (omega (arith, c.in_ok-room_for.ensures))) c.loop-count.invariant
