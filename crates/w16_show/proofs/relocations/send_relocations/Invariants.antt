use Rattle.std.proofs.Common.{take}
use Rattle.std.specs.{List.flat_map, Io.KnownBytes.Appends}
use Rattle.w16_show.specs.Text.{relocation_text}
use Rattle.w16_show.proofs.relocations.send_relocations.Given as goal

abbrev pub invariant-loop-relocation : goal.invariant-loop-relocation
invariant-loop-relocation g l = Appends (g.W.Write.contents l.fn.writer) (g.W.Write.contents l.writer) (flat_map (relocation_text l.file l.tables l.scratch.held.bytes) (take l.relocation-index l.relocation-items))
