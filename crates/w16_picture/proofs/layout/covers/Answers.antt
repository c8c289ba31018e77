use Rattle.std.proofs.Common.{arith}
use Rattle.w16_picture.proofs.Placing.{Fills-next, Fills-before}
use Rattle.w16_picture.proofs.layout.covers.Goals as goal
use Rattle.w16_picture.proofs.layout.covers.Goals.{then-item-at-via-then-item-at, then-item-at-via-else-item-at+then-item-eq0, then-item-at-via-else-item-at+else-item-eq0+then-memory-at}

pub returns-then-item-at : goal.returns-then-item-at
returns-then-item-at c = (
  λ h. absurd (cc),
  λ h.
      let next = Fills-next c.loop-item.at c.args.memory c.args.items.now c.loop-item.item-index _ c.loop-item-test.true (c.loop-item.invariant.onward h) in
      elim c.then-item-at.branch [
        | then-item-at-via-then-item-at w ↦ absurd (w.if-item-at.true next.begins)
        | then-item-at-via-else-item-at+then-item-eq0 w ↦ absurd (omega arith)
        | then-item-at-via-else-item-at+else-item-eq0+then-memory-at w ↦ absurd (omega arith)
      ],
)

pub loop-item-preserved : goal.loop-item-preserved
loop-item-preserved c = record {
  within = omega arith;
  onward = λ h. (Fills-next c.loop-item.at c.args.memory c.args.items.now c.loop-item.item-index _ c.loop-item-test.true (c.loop-item.invariant.onward h)).rest;
  back = λ h. c.loop-item.invariant.back (Fills-before c.loop-item.at c.args.memory c.args.items.now c.loop-item.item-index _ c.loop-item-test.true c.if-item-at.false (omega arith) h);
}
