use Rattle.std.proofs.Common.{length}
use Rattle.w16_script.proofs.PrintLemmas.{PrintedTo}
use Rattle.w16_script.proofs.print.print_digits.Given as goal

-- the digits up to here were printed
abbrev pub invariant-pieces : goal.invariant-pieces
invariant-pieces g l = record { printed : PrintedTo (g.W.Write.contents l.initial.writer) (g.W.Write.contents l.writer) l.bytes l.rest }

abbrev pub decreases-pieces : goal.decreases-pieces
decreases-pieces g l = length l.rest
