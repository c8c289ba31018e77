use Rattle.w16_global.proofs.Common.{◌≡◌, ℕ, ◌-◌, ◌≤◌, ◌⊎◌, length, descriptor_at, begins_in, told}
use Rattle.w16_global.proofs.follow.follow_slid.Given as goal

-- the selectors of all objects below have followed
abbrev pub invariant-objects : goal.invariant-objects
invariant-objects g l = record {
  above : l.slid.from ≤ l.from;
  ends : (l.from ≡ l.slid.from) ⊎ (l.from ≤ l.slid.to);
  so_far : (slot : ℕ) → descriptor_at l.selectors slot ≡ told l.objects.heap l.attributes (begins_in l.objects.heap l.slid.from l.from) l.initial.selectors slot;
  many : length l.selectors ≡ length l.initial.selectors;
}

abbrev pub decreases-objects : goal.decreases-objects
decreases-objects g l = l.slid.to - l.from
