use Rattle.w16_blocks.proofs.Common.{◌-◌, ◌≤◌, IsRun}
use Rattle.w16_blocks.proofs.Blocks.run_end.Given as goal

abbrev pub invariant-loop-end : goal.invariant-loop-end
invariant-loop-end g l = record {
  run : IsRun l.self (record { from = l.from; to = l.end });
  high : l.end ≤ l.high;
}

abbrev pub decreases-loop-end : goal.decreases-loop-end
decreases-loop-end g l = l.high - l.end
