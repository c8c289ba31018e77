use Rattle.std.proofs.Common.{◌+◌, drop}
use Rattle.w16_ne.specs.Modules.{listed_resources}
use Rattle.w16_show.specs.{Numbered.numbered, Text.resource_text}
use Rattle.w16_show.proofs.Sending.{Leaves}
use Rattle.w16_show.proofs.resources.send_resources.Given as goal

abbrev pub invariant-loop-i : goal.invariant-loop-i
invariant-loop-i g l = Leaves (g.W.Write.contents l.fn.writer) (g.W.Write.contents l.writer) (numbered resource_text (l.i + 1) (drop l.i (listed_resources l.tables.resources))) (numbered resource_text 1 (listed_resources l.tables.resources))
