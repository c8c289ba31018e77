use Rattle.w16_kernel.proofs.Common.{ℕ, ◌<◌}
use Rattle.w16_kernel.specs.Marks.{IsLeftIdle}
use Rattle.w16_kernel.proofs.kernel.marks.first_left_idle.Given as goal

abbrev pub invariant-loop-handle : goal.invariant-loop-handle
invariant-loop-handle g l = (passed : ℕ) → passed < l.handle → IsLeftIdle l.registry l.ended l.marks passed → ⊥
