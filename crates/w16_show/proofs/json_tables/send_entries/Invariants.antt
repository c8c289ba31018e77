use Rattle.std.proofs.Common.{◌+◌, drop}
use Rattle.w16_show.specs.{Numbered.numbered, Json.entry_json}
use Rattle.w16_show.proofs.Sending.{LeavesItems}
use Rattle.w16_show.proofs.json_tables.send_entries.Given as goal

abbrev pub invariant-loop-i : goal.invariant-loop-i
invariant-loop-i g l = LeavesItems (g.W.Write.contents l.fn.writer) (g.W.Write.contents l.writer) l.later (numbered entry_json (l.i + 1) (drop l.i l.tables.entries)) (numbered entry_json 1 l.tables.entries)
