use Rattle.w16_global.proofs.Common.{handle_of, HasTold}
use Rattle.w16_global.proofs.global.Global16.walk.Given as goal

-- as many parts were told as turns were taken
abbrev pub invariant-loop : goal.invariant-loop
invariant-loop g l = HasTold handle_of l.self.handles.heap l.counter l.from
