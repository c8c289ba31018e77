-- The segments that are left are sound where all are.
use Rattle.w16_loader.proofs.Common.{All, IsFit, map, segment_in, take, ◌≡◌, ℕ, ◌≤◌, List, Some, Ok, drop, is_ok, list_all, file_of, tables_at, checked}
use Rattle.w16_loader.proofs.found.check_segments.Given as goal

abbrev pub invariant-loop-place : goal.invariant-loop-place
invariant-loop-place g l = record {
  files : g.S.Store.files l.store ≡ g.S.Store.files l.fn.store;
  failures : g.S.Store.failures l.fn.store ≤ g.S.Store.failures l.store;
  fit : All IsFit (take l.place (map segment_in l.module_file.segments));
  sound : (bytes : List ℕ) → g.S.Store.is_honest → file_of (g.S.Store.files l.fn.store) l.name ≡ Some bytes → tables_at (Some bytes) ≡ Ok l.module_file
      → list_all (λ s. is_ok (checked bytes l.module_file s)) (drop l.place l.module_file.segments) ≡ list_all (λ s. is_ok (checked bytes l.module_file s)) l.module_file.segments;
}
