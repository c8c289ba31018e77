use Rattle.std.proofs.Common.{subst, sym}
use Rattle.w16_local.specs.FreeEntries.{AreKept}
use Rattle.w16_local.proofs.FreeEntries.{zeros_kept}
use Rattle.w16_local.proofs.free_entries.FreeEntries.new.Goals as goal

pub invariant_of-result : goal.invariant_of-result
invariant_of-result g c = subst (λ kept. AreKept 0 kept) (sym c.in_ok-kept.ensures) zeros_kept
