-- The modules so far got what they get, and the objects of the others have no bytes still.
use Rattle.w16_loader.proofs.Common.{◌≡◌, ◌≤◌, ℕ, List, ModuleFile, gives_over, AreSaid, AreItsFiles, AreReadAs, AreUnfilled}
use Rattle.w16_loader.proofs.Fillings.{Reached}
use Rattle.w16_loader.proofs.filling.fill_modules.Given as goal

abbrev pub invariant-loop-place : goal.invariant-loop-place
invariant-loop-place g l = record {
  files : g.S.Store.files l.store ≡ g.S.Store.files l.fn.store;
  failures : g.S.Store.failures l.fn.store ≤ g.S.Store.failures l.store;
  rest : l.global.handles ≡ record l.initial.global.handles { heap = l.global.handles.heap };
  given : (reads : List ModuleFile) (after : ℕ) → g.S.Store.failures l.store ≤ after → AreReadAs l.registry l.handles reads
      → (g.S.Store.is_honest → AreSaid (g.S.Store.files l.fn.store) l.registry l.handles reads × AreItsFiles l.registry l.handles reads) → AreUnfilled l.registry l.initial.global.handles l.handles
      → Reached (gives_over g.S.Store.is_honest (g.S.Store.failures l.fn.store) after) l.registry l.initial.global.handles l.global.handles l.handles reads l.place;
}
