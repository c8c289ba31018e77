-- The handles so far, and those that are free from here on, begin with as many as all that are free.
use Rattle.w16_loader.proofs.Common.{◌≡◌, ◌≤◌, ◌++◌, length, take, free_handles}
use Rattle.w16_loader.proofs.FreeHandles.{free_from}
use Rattle.w16_loader.proofs.registry.Registry.free_handles.Given as goal

abbrev pub invariant-loop-handle : goal.invariant-loop-handle
invariant-loop-handle g l = record {
  lowest : take l.count (l.handles.items ++ free_from l.self l.handle) ≡ take l.count (free_handles l.self);
  few : length l.handles.items ≤ l.count;
}
