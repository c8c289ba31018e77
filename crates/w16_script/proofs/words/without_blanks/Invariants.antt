use Rattle.w16_script.proofs.Common.{◌≡◌, length, words_of}
use Rattle.w16_script.proofs.words.without_blanks.Given as goal

abbrev pub invariant-loop-first : goal.invariant-loop-first
invariant-loop-first l = words_of l.rest ≡ words_of l.text

abbrev pub decreases-loop-first : goal.decreases-loop-first
decreases-loop-first l = length l.rest
