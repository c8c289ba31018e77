use Rattle.std.proofs.Common.{◌≡◌, ◌+◌, ◌-◌, ℕ, None, get_or, length}
use Rattle.w16_local.proofs.init.reach.Given as goal

-- no heap has changed
abbrev pub invariant-more : goal.invariant-more
invariant-more g l = (q : ℕ) → get_or l.heaps.items q None ≡ get_or l.fn.heaps.items q None

-- how many slots are still wanted
abbrev pub decreases-more : goal.decreases-more
decreases-more g l = l.slot + 1 - length l.heaps.items
