use Rattle.w16_global.proofs.Common.{◌≤◌, ◌-◌, ◌^◌, handle_of, HasTold}
use Rattle.w16_global.proofs.global.Global16.walk_len.Given as goal

-- as many parts were told as were counted, each at an address of its own
abbrev pub invariant-loop-item : goal.invariant-loop-item
invariant-loop-item g l = record { told : HasTold handle_of l.self.handles.heap l.count l.from; few : l.count ≤ l.from }

abbrev pub decreases-loop-item : goal.decreases-loop-item
decreases-loop-item g l = 2 ^ 32 - l.from
