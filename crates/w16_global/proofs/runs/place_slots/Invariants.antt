use Rattle.w16_global.proofs.Common.{◌≡◌, ℕ, length, ◌-◌, Some, descriptor_at, kind_at, in_run, reaching}
use Rattle.w16_global.proofs.runs.place_slots.Given as goal

abbrev pub invariant-loop-number : goal.invariant-loop-number
invariant-loop-number g l = record {
  said : (slot : ℕ) → descriptor_at l.selectors slot ≡ in_run l.first l.number (λ slot. Some (reaching (kind_at l.initial.selectors slot) l.at l.size (slot - l.first))) l.initial.selectors slot;
  many : length l.selectors ≡ length l.initial.selectors;
}
