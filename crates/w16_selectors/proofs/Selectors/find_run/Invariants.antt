use Rattle.std.proofs.Common.{ℕ, ◌-◌, ◌<◌, ◌≤◌, length}
use Rattle.w16_model.specs.declared.TheConstants.{FIRST_SLOT}
use Rattle.w16_selectors.specs.Descriptors.{IsFreeRun}
use Rattle.w16_selectors.proofs.Selectors.find_run.Given as goal

-- no run begins below here
abbrev pub invariant-loop-first : goal.invariant-loop-first
invariant-loop-first g l = record {
  above : FIRST_SLOT ≤ l.first;
  inside : l.first ≤ length l.self;
  lowest : (lower : ℕ) → lower < l.first → IsFreeRun l.self lower l.count → ⊥;
}

abbrev pub decreases-loop-first : goal.decreases-loop-first
decreases-loop-first g l = length l.self - l.first
