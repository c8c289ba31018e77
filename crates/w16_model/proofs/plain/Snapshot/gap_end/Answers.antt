use Rattle.w16_model.proofs
use proofs.Common.{sym, ◌∙◌, and_left, and_right, lt-leb, is_pinned}
use proofs.Folds.{no_block, first_from-taken, first_from-passed}
use proofs.plain.Snapshot.gap_end.Goals.{then-is_pinned+then-from-block, else-is_pinned, else-is_pinned-via-then-is_pinned+else-from-block, else-is_pinned-via-else-is_pinned}
use Rattle.w16_model.proofs.plain.Snapshot.gap_end.Goals as goal

pub loop-block-preserved : goal.loop-block-preserved
loop-block-preserved c = elim c.if-is_pinned.branch [
  | then-is_pinned+then-from-block w ↦ first_from-taken c.args.self.now.blocks.now c.loop-block.block-index no_block c.loop-block-test.true is_pinned c.loop-block.end c.if-is_pinned.end c.args.from _ c.loop-block.invariant
      (sym c.is_pinned.ensures ∙ w.if-is_pinned.true) w.if-from-block.true (w.end-is ∙ w.min-end.ensures)
  | else-is_pinned w ↦ first_from-passed c.args.self.now.blocks.now c.loop-block.block-index no_block c.loop-block-test.true is_pinned c.loop-block.end c.if-is_pinned.end c.args.from _ c.loop-block.invariant
      (elim w.else-is_pinned.branch [
        | else-is_pinned-via-then-is_pinned+else-from-block v ↦ and_right _ _ (lt-leb _ _ v.if-from-block.false)
        | else-is_pinned-via-else-is_pinned v ↦ and_left _ _ (sym c.is_pinned.ensures ∙ v.if-is_pinned.false)
      ]) w.end-is
]
