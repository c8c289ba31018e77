use Rattle.w16_blocks.proofs.Common.{◌≡◌, ◌-◌, ◌≤◌, length, map, AllByRecursion, blocks_in, layout_in, AreTables, IsRun, slid_with}
use Rattle.w16_blocks.proofs.Sliding.{IsReady}
use Rattle.w16_blocks.proofs.runs.retag_run.Given as goal

abbrev pub invariant-loop-at : goal.invariant-loop-at
invariant-loop-at l = record {
  tables : AreTables (length l.fn.slots) l.bounds.from l.bounds.to l.grain l.slots l.begins;
  slid : blocks_in l.slots l.begins ≡ map (slid_with (record { from = l.within.from; to = l.at }) l.to) (blocks_in l.fn.slots l.fn.begins);
  ready : AllByRecursion (IsReady l.within l.to l.at) (blocks_in l.slots l.begins);
  run : IsRun (layout_in (length l.fn.slots) l.bounds.from l.bounds.to l.grain l.fn.slots l.fn.begins) (record { from = l.within.from; to = l.at });
  from : l.within.from ≤ l.at;
  end : l.at ≤ l.within.to;
  slots : length l.slots ≡ length l.fn.slots;
  begins : length l.begins ≡ length l.fn.begins;
}

abbrev pub decreases-loop-at : goal.decreases-loop-at
decreases-loop-at l = l.within.to - l.at
