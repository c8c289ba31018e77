use Rattle.w16_global.proofs.Common.{◌≡◌, ℕ, length, descriptor_at, given}
use Rattle.w16_global.proofs.runs.give_run.Given as goal

abbrev pub invariant-loop-number : goal.invariant-loop-number
invariant-loop-number g l = record {
  said : (slot : ℕ) → descriptor_at l.selectors slot ≡ given l.first l.number l.initial.selectors slot;
  many : length l.selectors ≡ length l.initial.selectors;
}
