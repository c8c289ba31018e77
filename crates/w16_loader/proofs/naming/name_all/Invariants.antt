-- The modules so far have names, and the imports of the others are still in the vector.
use Rattle.w16_loader.proofs.Common as C
use Rattle.w16_loader.proofs.Common.{◌≡◌, ℕ, ◌≤◌, List, [], map, take, length, slice_index_or}
use Rattle.w16_loading.specs.Closure as closing
use Rattle.w16_loader.proofs.naming.name_all.Given as goal

abbrev pub invariant-loop-place : goal.invariant-loop-place
invariant-loop-place g l = record {
  named : (rest : C.LoadingWorld) (meant : List closing.Found) → C.AllZip C.IsFoundOf l.fn.found.items meant → C.GetNames (C.in_world (C.with_handles rest l.fn.global.handles) l.fn.registry)
      (C.unbound_by (λ place. slice_index_or (map (λ v. v.items) l.fn.imports.items) place [])) (take (length l.yielded) meant) (take (length l.yielded) l.handles) (C.in_world (C.with_handles rest l.global.handles) l.registry);
  imports : (place : ℕ) → length l.yielded ≤ place → slice_index_or (map (λ v. v.items) l.imports.items) place [] ≡ slice_index_or (map (λ v. v.items) l.fn.imports.items) place [];
  many : length l.imports.items ≡ length l.fn.imports.items;
  written : l.global.written ≡ l.fn.global.written;
}
