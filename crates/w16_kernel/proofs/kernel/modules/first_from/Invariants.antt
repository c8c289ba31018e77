-- No handle that was passed names anything.
use Rattle.w16_kernel.proofs.Common.{None, ℕ, ◌<◌, ◌≡◌, ◌≤◌}
use Rattle.std.specs.FinMap as finmap
use Rattle.w16_kernel.proofs.kernel.modules.first_from.Given as goal

abbrev pub invariant-loop-handle : goal.invariant-loop-handle
invariant-loop-handle g l = (passed : ℕ) → l.from ≤ passed → passed < l.handle → finmap.get l.registry passed ≡ None
