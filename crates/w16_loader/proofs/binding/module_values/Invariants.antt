-- The segments so far have their values.
use Rattle.w16_loader.proofs.Common as C
use Rattle.w16_loader.proofs.Common.{◌≡◌, ◌≤◌, List, map, take}
use Rattle.std.specs.FinMap as finmap
use Rattle.w16_loader.proofs.binding.module_values.Given as goal

abbrev pub invariant-loop-place : goal.invariant-loop-place
invariant-loop-place g l = record {
  files : g.S.Store.files l.store ≡ g.S.Store.files l.fn.store;
  failures : g.S.Store.failures l.fn.store ≤ g.S.Store.failures l.store;
  many : C.vec_len l.values ≡ l.place;
  room : C.vec_capacity l.values ≡ l.count;
  any : (targets : List (List C.Target)) × (C.length targets ≡ l.place) × (map (λ v. map C.far_of v.items) l.values.items ≡ C.values_for (finmap.get l.registry) l.loaded targets)
      × ((read : C.ModuleFile) → g.S.Store.is_honest → C.IsSaid (g.S.Store.files l.fn.store) l.loaded read → targets ≡ take l.place (map C.targets_of read.segments));
}
