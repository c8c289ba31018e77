-- What goes from here on, after what went, goes from the start; and each time a module less is left.
use Rattle.w16_loader.proofs.Common.{◌≡◌, ℕ, List, LoadingWorld, with_handles, Go, in_world}
use Rattle.std.specs.FinMap as finmap
use Rattle.w16_loader.proofs.ending.release_idle.Given as goal

abbrev pub invariant-loop-handle : goal.invariant-loop-handle
invariant-loop-handle g l = record {
  goes : (rest end : LoadingWorld) → (gone : List ℕ) × Go (in_world (with_handles rest l.global.handles) l.registry) gone end
      → (gone : List ℕ) × Go (in_world (with_handles rest l.initial.global.handles) l.initial.registry) gone end;
  written : l.global.written ≡ l.initial.global.written;
}

abbrev pub decreases-loop-handle : goal.decreases-loop-handle
decreases-loop-handle g l = finmap.len l.registry
