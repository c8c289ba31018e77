use Rattle.w16_script.proofs.Common.{◌≡◌, ℕ, ◌<◌, ◌≤◌, get_or, false, is_blank}
use Rattle.w16_script.proofs.words.blank_from.Given as goal

-- no blank stands before this byte
abbrev pub invariant-bytes : goal.invariant-bytes
invariant-bytes l = record { before : (k : ℕ) → l.from ≤ k → k < l.at → is_blank (get_or l.text k 0) ≡ false }
