use Rattle.w16_blocks.proofs.Common.{◌≡◌, ◌+◌, ◌-◌, ◌≤◌, length, map, blocks_in, AreTables, IsCut, slid_with}
use Rattle.w16_blocks.proofs.lifts.retag_run_up.Given as goal

abbrev pub invariant-loop-at : goal.invariant-loop-at
invariant-loop-at l = record {
  tables : AreTables (length l.fn.slots) l.bounds.from l.bounds.to l.grain l.slots l.begins;
  list : blocks_in l.slots l.begins ≡ map (slid_with (record { from = l.at; to = l.run.to }) (l.to + (l.at - l.run.from))) (blocks_in l.fn.slots l.fn.begins);
  cut : IsCut l.at (blocks_in l.fn.slots l.fn.begins);
  from : l.run.from ≤ l.at;
  end : l.at ≤ l.run.to;
  slots : length l.slots ≡ length l.fn.slots;
  begins : length l.begins ≡ length l.fn.begins;
}

abbrev pub decreases-loop-at : goal.decreases-loop-at
decreases-loop-at l = l.at
