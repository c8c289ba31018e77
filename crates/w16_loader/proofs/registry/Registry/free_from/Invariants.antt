-- No handle that was passed is free.
use Rattle.w16_loader.proofs.Common.{ℕ, ◌≤◌, ◌<◌, IsFreeModule}
use Rattle.w16_loader.proofs.registry.Registry.free_from.Given as goal

abbrev pub invariant-loop-handle : goal.invariant-loop-handle
invariant-loop-handle g l = (lower : ℕ) → l.from ≤ lower → lower < l.handle → IsFreeModule l.self lower → ⊥
