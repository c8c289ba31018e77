use Rattle.std.proofs.Common.{drop}
use Rattle.w16_show.specs.{Numbered.numbered, Json.name_json}
use Rattle.w16_show.proofs.Sending.{LeavesItems}
use Rattle.w16_show.proofs.json_tables.send_names.Given as goal

abbrev pub invariant-loop-i : goal.invariant-loop-i
invariant-loop-i g l = LeavesItems (g.W.Write.contents l.fn.writer) (g.W.Write.contents l.writer) l.later (numbered (name_json l.tables.resident) l.i (drop l.i l.tables.names)) (numbered (name_json l.tables.resident) 0 l.tables.names)
