use Rattle.std.proofs.Common.{◌≡◌, ℕ, List, drop}
use Rattle.std.specs.List.{flat_map, fold}
use Rattle.w16_show.specs.Report.{IsOpened}
use Rattle.w16_reloc.specs.Segments.{checked}
use Rattle.w16_show.specs.Imports.{targets_in, with_import, ranked_imports}
use Rattle.w16_show.proofs.imports.imports.Given as goal

abbrev pub invariant-loop-i : goal.invariant-loop-i
invariant-loop-i l =
    (l.store ≡ l.initial.store) × ((file : List ℕ) → IsOpened l.initial.store l.name file l.tables
    → fold with_import l.imports.entries (flat_map (λ s. targets_in (checked file l.tables s)) (drop l.i l.tables.segments)) ≡ ranked_imports file l.tables)
