use Rattle.std.proofs.Common.{drop, map}
use Rattle.w16_show.specs.Json.{relocation_json}
use Rattle.w16_show.proofs.Sending.{LeavesItems}
use Rattle.w16_show.proofs.json_segments.send_relocations.Given as goal

abbrev pub invariant-loop-relocation : goal.invariant-loop-relocation
invariant-loop-relocation g l = LeavesItems (g.W.Write.contents l.fn.writer) (g.W.Write.contents l.writer) l.later (map (relocation_json l.file l.tables l.scratch.held.bytes) (drop l.relocation-index l.relocation-items)) (map (relocation_json l.file l.tables l.scratch.held.bytes) l.relocation-items)
