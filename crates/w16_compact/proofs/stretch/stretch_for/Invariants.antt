use Rattle.w16_compact.proofs.Common.{ℕ, ◌≡◌, ◌≤◌, drop, filter, room, from_address}
use Rattle.w16_compact.proofs.Skips.{IsPassed, IsReachedGrained}
use Rattle.w16_compact.proofs.Stays.{seen, stays, goes_for}
use Rattle.w16_compact.proofs.stretch.stretch_for.Given as goal

abbrev pub invariant-loop-block : goal.invariant-loop-block
invariant-loop-block g l =
    let b = l.fn.blocks in let p = stays l.fn.options.compact (goes_for b.blocks l.fn.order.ids l.fn.h l.fn.options.discard) in let xs = seen l.fn.options.compact b.blocks in
    record {
      may : (goal.iterator-loop-block g).can_next l.block-iterator;
      ends : (goal.iterator-loop-block g).is_finite l.block-iterator;
      passed : (i : ℕ) × (drop i b.blocks ≡ from_address l.block-iterator.from l.block-iterator.blocks.now.blocks)
          × ((end : ℕ) → b.hi ≤ end → IsPassed p end xs (room b.lo end (filter p xs)) i l.most l.reached.low l.reached.loose);
      grained : IsReachedGrained b.grain l.reached;
    }
