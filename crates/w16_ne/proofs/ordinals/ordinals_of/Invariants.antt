use Rattle.w16_ne.proofs.Common.{take, Finds}
use Rattle.w16_ne.proofs.ordinals.ordinals_of.Given as goal

abbrev pub invariant-loop-i : goal.invariant-loop-i
invariant-loop-i g l = Finds l.ordinals (take l.i l.names)
