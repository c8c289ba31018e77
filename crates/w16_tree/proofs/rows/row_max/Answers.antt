use Rattle.w16_tree.specs.Tree.{number}
use Rattle.w16_tree.proofs.Leaves.{most_more}
use Rattle.w16_tree.proofs.rows.row_max.Goals as goal

pub loop-k-preserved : goal.loop-k-preserved
loop-k-preserved c =
    let more = most_more _ _ _ c.loop-k.most _ c.loop-k-test.true c.max-most.ensures c.loop-k.invariant.bound c.loop-k.invariant.met in
    record { bound = more.0; met = more.1 }
