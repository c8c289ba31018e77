use Rattle.w16_script.proofs.Common.{◌≡◌, ℕ, ◌<◌, ◌≤◌, ◌-◌, get_or, length, false, is_blank}
use Rattle.w16_script.proofs.words.word_length.Given as goal

-- no blank stands before this byte
abbrev pub invariant-lanes : goal.invariant-lanes
invariant-lanes l = record { within : l.at ≤ length l.text; before : (k : ℕ) → k < l.at → is_blank (get_or l.text k 0) ≡ false }

abbrev pub decreases-lanes : goal.decreases-lanes
decreases-lanes l = length l.text - l.at
