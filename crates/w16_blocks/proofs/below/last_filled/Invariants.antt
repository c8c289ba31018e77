use Rattle.w16_blocks.proofs.Common.{ℕ, ◌≡◌, ◌≤◌, ◌<◌, slice_index}
use Rattle.w16_blocks.proofs.below.last_filled.Given as goal

-- no block begins in the cells that were looked at
abbrev pub invariant-together : goal.invariant-together
invariant-together l = record { within : l.end ≤ l.below; blank : (k : ℕ) → l.end ≤ k → k < l.below → slice_index l.begins k ≡ 0 }

abbrev pub decreases-together : goal.decreases-together
decreases-together l = l.end
