use Rattle.std.proofs.Common.{◌≡◌, ◌++◌, replicate, string_bytes}
use Rattle.w16_picture.proofs.text.push_filler.Given as goal

abbrev pub invariant-loop-written : goal.invariant-loop-written
invariant-loop-written l = string_bytes l.out ≡ string_bytes l.initial.out ++ replicate l.written l.fill
