use Rattle.std.proofs.Common.{◌≡◌, ◌+◌, drop}
use Rattle.w16_show.specs.{Report.IsOpened, Numbered.numbered, Json.segment_json}
use Rattle.w16_show.proofs.Sending.{LeavesItems}
use Rattle.w16_show.proofs.json_segments.send_segments.Given as goal

abbrev pub invariant-loop-i : goal.invariant-loop-i
invariant-loop-i g l =
    (l.store ≡ l.fn.store) × (IsOpened l.fn.store l.name l.file l.tables
    → LeavesItems (g.W.Write.contents l.fn.writer) (g.W.Write.contents l.writer) l.later (numbered (segment_json l.file l.tables) (l.i + 1) (drop l.i l.tables.segments)) (numbered (segment_json l.file l.tables) 1 l.tables.segments))
