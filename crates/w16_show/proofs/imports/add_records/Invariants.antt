use Rattle.std.proofs.Common.{◌≡◌, take}
use Rattle.std.specs.List.{flat_map, fold}
use Rattle.w16_show.specs.Imports.{targets_of, with_import}
use Rattle.w16_show.proofs.imports.add_records.Given as goal

abbrev pub invariant-loop-record : goal.invariant-loop-record
invariant-loop-record l = l.imports.entries ≡ fold with_import l.initial.imports.entries (flat_map targets_of (take l.record-index l.records))
