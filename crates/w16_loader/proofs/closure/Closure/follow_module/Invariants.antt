-- The references so far are followed, and the module has as many as it had.
use Rattle.w16_loader.proofs.Common.{[], map, found_in, AreAccepted, LeadsBy, answers_of, ◌≡◌, ◌≤◌, FindsFew, references_at, reached_of}
use Rattle.w16_loader.proofs.closure.Closure.follow_module.Given as goal

abbrev pub invariant-loop-done : goal.invariant-loop-done
invariant-loop-done g l = record {
  files : g.S.Store.files l.store ≡ g.S.Store.files l.fn.store;
  failures : g.S.Store.failures l.fn.store ≤ g.S.Store.failures l.store;
  same : references_at l.self.found.items l.place ≡ references_at l.fn.self.found.items l.place;
  few : FindsFew l.registry l.fn.self.found.items l.self.found.items;
  accepted : AreAccepted (answers_of g.S.Store.is_honest (g.S.Store.files l.fn.store)) (map (found_in []) l.fn.self.found.items) → AreAccepted (answers_of g.S.Store.is_honest (g.S.Store.files l.fn.store)) (map (found_in []) l.self.found.items);
  answered : LeadsBy (answers_of g.S.Store.is_honest (g.S.Store.files l.fn.store)) l.registry l.self.found.items (reached_of l.place 0 l.fn.self) (reached_of l.place l.done l.self);
}
