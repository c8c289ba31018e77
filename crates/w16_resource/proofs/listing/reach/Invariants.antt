-- Only places of no load have come.
use Rattle.w16_resource.proofs.Common.{None, length, slice_index_or, ℕ, ◌+◌, ◌-◌, ◌≡◌, ◌≤◌}
use Rattle.w16_resource.proofs.listing.reach.Given as goal

abbrev pub invariant-loop-loads : goal.invariant-loop-loads
invariant-loop-loads g l = record {
  same : (q : ℕ) → slice_index_or l.loads.items q None ≡ slice_index_or l.initial.loads.items q None;
  few : length l.loads.items ≤ 8192;
  room : 8192 ≤ l.loads.cap;
}

abbrev pub decreases-loop-loads : goal.decreases-loop-loads
decreases-loop-loads g l = l.slot + 1 - length l.loads.items
