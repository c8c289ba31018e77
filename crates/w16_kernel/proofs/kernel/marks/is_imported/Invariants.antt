use Rattle.w16_kernel.proofs.Common.{false, ℕ, ◌≡◌, ◌≢◌, ◌<◌}
use Rattle.w16_kernel.specs.Marks.{is_marked, refers_to}
use Rattle.w16_kernel.proofs.kernel.marks.is_imported.Given as goal

abbrev pub invariant-loop-other : goal.invariant-loop-other
invariant-loop-other g l = (passed : ℕ) → passed < l.other → passed ≢ l.handle → is_marked l.marks passed ≡ false → refers_to l.registry passed l.handle ≡ false
