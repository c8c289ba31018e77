use Rattle.std.proofs.Common.{◌≡◌, ℕ, ◌+◌, List, drop}
use Rattle.w16_show.specs.Report.{IsOpened, first_unsound}
use Rattle.w16_show.proofs.open.first_unsound.Given as goal

abbrev pub invariant-loop-i : goal.invariant-loop-i
invariant-loop-i l =
    (l.store ≡ l.initial.store) × ((file : List ℕ) → IsOpened l.initial.store l.name file l.tables
    → first_unsound file l.tables (l.i + 1) (drop l.i l.tables.segments) ≡ first_unsound file l.tables 1 l.tables.segments)
