use Rattle.w16_script.proofs.Common.{◌≤◌, take, length, Appends}
use Rattle.w16_script.proofs.write.write_whole.Given as goal

-- the front up to here was appended
abbrev pub invariant-tries : goal.invariant-tries
invariant-tries g l = record { within : l.at ≤ length l.bytes; appends : Appends (g.W.Write.contents l.initial.writer) (g.W.Write.contents l.writer) (take l.at l.bytes) }
