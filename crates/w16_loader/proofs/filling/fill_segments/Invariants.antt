-- The objects of the segments so far got what they get, and those of the others have no bytes still.
use Rattle.w16_loader.proofs
use proofs.Common as C
use proofs.Common.{◌≡◌, ◌≢◌, ℕ, ◌<◌, ◌≤◌, Some}
use proofs.Fillings.{Goes, fills_behind}
use Rattle.w16_loader.proofs.filling.fill_segments.Given as goal

abbrev pub invariant-loop-done : goal.invariant-loop-done
invariant-loop-done g l = record {
  files : g.S.Store.files l.store ≡ g.S.Store.files l.fn.store;
  failures : g.S.Store.failures l.fn.store ≤ g.S.Store.failures l.store;
  rest : l.global.handles ≡ record l.initial.global.handles { heap = l.global.handles.heap };
  kept : (slot : ℕ) (s : C.Segment) → ((i : ℕ) → i < l.done → C.slice_get l.loaded.slots i ≢ Some slot) → C.IsUnfilled l.initial.global.handles slot s → C.IsUnfilled l.global.handles slot s;
  given : (read : C.ModuleFile) (place after : ℕ) → g.S.Store.failures l.store ≤ after → C.IsReadAs l.loaded read → (g.S.Store.is_honest → C.IsSaid (g.S.Store.files l.fn.store) l.loaded read × C.IsItsFiles l.loaded read) → C.HasUnfilled l.initial.global.handles l.loaded
      → Goes (C.gives_over g.S.Store.is_honest (g.S.Store.failures l.fn.store) after) l.initial.global.handles.heap (C.fills_in place l.loaded read) l.global.handles.heap (fills_behind place l.loaded read l.done);
}
