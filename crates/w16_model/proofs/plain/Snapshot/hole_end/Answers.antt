use Rattle.w16_model.proofs
use proofs.Common.{refl, ◌∙◌, lt-leb, is_any}
use proofs.Folds.{no_block, first_from-taken, first_from-passed}
use proofs.plain.Snapshot.hole_end.Goals.{then-from-block, else-from-block}
use Rattle.w16_model.proofs.plain.Snapshot.hole_end.Goals as goal

pub loop-block-preserved : goal.loop-block-preserved
loop-block-preserved c = elim c.if-from-block.branch [
  | then-from-block w ↦ first_from-taken c.args.self.now.blocks.now c.loop-block.block-index no_block c.loop-block-test.true is_any c.loop-block.end c.if-from-block.end c.args.from _ c.loop-block.invariant
      refl w.if-from-block.true (w.end-is ∙ w.min-end.ensures)
  | else-from-block w ↦ first_from-passed c.args.self.now.blocks.now c.loop-block.block-index no_block c.loop-block-test.true is_any c.loop-block.end c.if-from-block.end c.args.from _ c.loop-block.invariant
      (lt-leb _ _ w.if-from-block.false) w.end-is
]
