use Rattle.std.proofs.Common.{◌+◌, drop}
use Rattle.w16_ne.specs.Modules.{listed_resources}
use Rattle.w16_show.specs.{Numbered.numbered, Json.resource_json}
use Rattle.w16_show.proofs.Sending.{LeavesItems}
use Rattle.w16_show.proofs.json_tables.send_resources.Given as goal

abbrev pub invariant-loop-i : goal.invariant-loop-i
invariant-loop-i g l = LeavesItems (g.W.Write.contents l.fn.writer) (g.W.Write.contents l.writer) l.later (numbered resource_json (l.i + 1) (drop l.i (listed_resources l.tables.resources))) (numbered resource_json 1 (listed_resources l.tables.resources))
