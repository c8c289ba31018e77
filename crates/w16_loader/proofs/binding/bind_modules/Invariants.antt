-- What comes of the modules that are left comes of all.
use Rattle.w16_loader.proofs.Common.{◌≡◌, ◌≤◌, ℕ, List, drop, false, is_member, ModuleFile, Target, AreSaid, AreTargets, all_bound}
use Rattle.std.specs.FinMap as finmap
use Rattle.w16_loader.proofs.Bindings.{AreAlike, targets_in_all}
use Rattle.w16_loader.proofs.binding.bind_modules.Given as goal

abbrev pub invariant-loop-place : goal.invariant-loop-place
invariant-loop-place g l = record {
  files : g.S.Store.files l.store ≡ g.S.Store.files l.fn.store;
  failures : g.S.Store.failures l.fn.store ≤ g.S.Store.failures l.store;
  values : AreAlike (finmap.get l.registry) (finmap.get l.fn.registry);
  others : (handle : ℕ) → is_member handle l.handles ≡ false → finmap.get l.registry handle ≡ finmap.get l.fn.registry handle;
  any : (more : List (List (List Target))) → AreTargets l.fn.registry (drop l.place l.handles) more
      → (targets : List (List (List Target))) × AreTargets l.fn.registry l.handles targets
      × (all_bound (finmap.get l.fn.registry) l.fn.registry l.handles targets ≡ all_bound (finmap.get l.fn.registry) l.registry (drop l.place l.handles) more)
      × ((reads : List ModuleFile) → g.S.Store.is_honest → AreSaid (g.S.Store.files l.fn.store) l.fn.registry l.handles reads → more ≡ targets_in_all (drop l.place reads) → targets ≡ targets_in_all reads);
}
