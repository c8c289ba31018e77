use Rattle.w16_blocks.proofs.Common.{ℕ, ◌≡◌, ◌≤◌, ◌<◌, slice_index}
use Rattle.w16_blocks.proofs.below.block_below.Given as goal

-- no block begins in the units that were looked at
abbrev pub invariant-loop-unit : goal.invariant-loop-unit
invariant-loop-unit l = (k : ℕ) → l.unit ≤ k → k < l.below → slice_index l.begins k ≡ 0
