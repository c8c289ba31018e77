-- No handle that was passed is a module's that nobody uses.
use Rattle.w16_loader.proofs.Common.{◌≡◌, ℕ, ◌<◌, false, is_idle}
use Rattle.w16_loader.proofs.registry.Registry.first_idle.Given as goal

abbrev pub invariant-loop-handle : goal.invariant-loop-handle
invariant-loop-handle g l = (lower : ℕ) → lower < l.handle → is_idle l.self lower ≡ false
