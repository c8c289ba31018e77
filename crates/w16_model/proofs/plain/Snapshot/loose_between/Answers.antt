use Rattle.std.proofs.Common.{sym, ap, not, arith}
use Rattle.w16_model.proofs.Folds.{no_block, loose_bytes-fit, loose_bytes-all}
use Rattle.w16_model.proofs.plain.Snapshot.loose_between.Goals as goal

pub overflow_add-bytes : goal.overflow_add-bytes
overflow_add-bytes c =
    omega (
      arith,
      loose_bytes-fit c.args.self.now.lo c.args.self.now.hi c.args.from c.min-end.result c.loop-block.bytes c.loop-block.block-index no_block c.args.self.now.blocks.now c.requires c.loop-block-test.true c.loop-block.invariant
          (sym (ap not c.if-not-is_pinned.ensures)) c.if-from-block.true c.if-block-end.true,
    )

pub returns : goal.returns
returns c = loose_bytes-all c.args.self.now.lo c.args.self.now.hi c.args.from c.args.to c.min-end.result _ c.loop-block.block-index c.args.self.now.blocks.now c.requires c.loop-block-test.false c.min-end.ensures
    c.loop-block.invariant
