use Rattle.std.proofs.Common.{map}
use Rattle.std.specs.BTreeMap.{values}
use Rattle.w16_show.specs.Json.{target_json}
use Rattle.w16_show.proofs.Sending.{LeavesItems}
use Rattle.w16_show.proofs.json_segments.send_targets.Given as goal

abbrev pub invariant-loop-target : goal.invariant-loop-target
invariant-loop-target g l = LeavesItems (g.W.Write.contents l.fn.writer) (g.W.Write.contents l.writer) l.later (map (target_json l.file l.tables) l.target-iterator) (map (target_json l.file l.tables) (values l.imports))
