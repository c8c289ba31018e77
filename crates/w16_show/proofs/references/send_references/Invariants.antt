use Rattle.std.proofs.Common.{◌+◌, drop}
use Rattle.w16_show.specs.{Numbered.numbered, Text.reference_text}
use Rattle.w16_show.proofs.Sending.{Leaves}
use Rattle.w16_show.proofs.references.send_references.Given as goal

abbrev pub invariant-loop-i : goal.invariant-loop-i
invariant-loop-i g l = Leaves (g.W.Write.contents l.fn.writer) (g.W.Write.contents l.writer) (numbered reference_text (l.i + 1) (drop l.i l.tables.references)) (numbered reference_text 1 l.tables.references)
