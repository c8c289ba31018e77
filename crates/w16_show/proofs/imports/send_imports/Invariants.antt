use Rattle.std.specs.{BTreeMap.values, List.flat_map}
use Rattle.w16_show.specs.Text.{import_text}
use Rattle.w16_show.proofs.Sending.{Leaves}
use Rattle.w16_show.proofs.imports.send_imports.Given as goal

abbrev pub invariant-loop-import : goal.invariant-loop-import
invariant-loop-import g l = Leaves (g.W.Write.contents l.fn.writer) (g.W.Write.contents l.writer) (flat_map (import_text l.file l.tables) l.import-iterator) (flat_map (import_text l.file l.tables) (values l.imports))
