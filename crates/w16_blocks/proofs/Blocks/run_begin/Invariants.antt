use Rattle.w16_blocks.proofs.Common.{◌≤◌, IsRun}
use Rattle.w16_blocks.proofs.Blocks.run_begin.Given as goal

abbrev pub invariant-loop-begin : goal.invariant-loop-begin
invariant-loop-begin g l = record {
  run : IsRun l.self (record { from = l.begin; to = l.to });
  low : l.low ≤ l.begin;
}

abbrev pub decreases-loop-begin : goal.decreases-loop-begin
decreases-loop-begin g l = l.begin
