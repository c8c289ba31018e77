use Rattle.w16_ne.proofs.Common.{◌≡◌, take, str_to_ascii_uppercase}
use Rattle.w16_ne.proofs.names.write_upper.Given as goal

abbrev pub invariant-loop-i : goal.invariant-loop-i
invariant-loop-i l = take l.i l.room ≡ str_to_ascii_uppercase (take l.i l.text)
