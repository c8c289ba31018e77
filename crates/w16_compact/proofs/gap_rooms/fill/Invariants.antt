use Rattle.w16_compact.proofs.Common.{ℕ, ◌≡◌, not, drop, filter, room, is_about, from_address}
use Rattle.w16_compact.proofs.{Skips.IsPassed, Filled.IsFilled}
use Rattle.w16_compact.proofs.gap_rooms.fill.Given as goal

abbrev pub invariant-loop-block : goal.invariant-loop-block
invariant-loop-block g l =
    let b = l.fn.blocks in let rest = from_address l.block-iterator.from l.block-iterator.blocks.now.blocks in
    record {
      may : (goal.iterator-loop-block g).can_next l.block-iterator;
      ends : (goal.iterator-loop-block g).is_finite l.block-iterator;
      passed : (i : ℕ) × (drop i b.blocks ≡ rest)
          × IsPassed (λ x. not (is_about l.fn.h x.id)) b.hi b.blocks (room b.lo b.hi (filter (λ x. not (is_about l.fn.h x.id)) b.blocks)) i l.most l.reached.low l.reached.loose;
      filled : IsFilled (λ x. not (is_about l.fn.h x.id)) b.lo b.hi b.cap b.blocks l.gap l.reached.low l.reached.loose l.gap_of l.rooms rest;
    }
