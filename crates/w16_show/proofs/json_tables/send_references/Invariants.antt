use Rattle.std.proofs.Common.{◌+◌, drop}
use Rattle.w16_show.specs.{Numbered.numbered, Json.reference_json}
use Rattle.w16_show.proofs.Sending.{LeavesItems}
use Rattle.w16_show.proofs.json_tables.send_references.Given as goal

abbrev pub invariant-loop-i : goal.invariant-loop-i
invariant-loop-i g l = LeavesItems (g.W.Write.contents l.fn.writer) (g.W.Write.contents l.writer) l.later (numbered reference_json (l.i + 1) (drop l.i l.tables.references)) (numbered reference_json 1 l.tables.references)
