use Rattle.w16_compact.proofs.Common.{ℕ, ◌≡◌, drop, IsOrdered, from_address, others, without}
use Rattle.w16_compact.proofs.Walked.{IsWalked}
use Rattle.w16_compact.proofs.gaps.gap_for.Given as goal

abbrev pub invariant-loop-block : goal.invariant-loop-block
invariant-loop-block g l =
    (goal.iterator-loop-block g).can_next l.block-iterator ×
    (goal.iterator-loop-block g).is_finite l.block-iterator ×
    ((ordered : IsOrdered (without l.fn.h l.fn.blocks))
    × ((i : ℕ) × (drop i (others l.fn.h l.fn.blocks.blocks) ≡ others l.fn.h (from_address l.block-iterator.from l.block-iterator.blocks.now.blocks)) × IsWalked (without l.fn.h l.fn.blocks) l.n ordered i l.reached))
