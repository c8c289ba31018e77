use Rattle.w16_global.proofs.Common.{◌≡◌, ℕ, length, take, descriptor_at, is_member, told}
use Rattle.w16_global.proofs.follow.forget.Given as goal

-- the selectors of the first of them have been told
abbrev pub invariant-loop-id : goal.invariant-loop-id
invariant-loop-id g l = record {
  so_far : (slot : ℕ) → descriptor_at l.selectors slot ≡ told l.objects.heap l.attributes (λ first. is_member first (take l.id-index l.discarded)) l.initial.selectors slot;
  many : length l.selectors ≡ length l.initial.selectors;
}
