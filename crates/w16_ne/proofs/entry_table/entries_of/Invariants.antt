use Rattle.w16_ne.proofs.Common.{◌≡◌, ◌≤◌, ◌-◌, length, bundles_from, entries_in}
use Rattle.w16_ne.proofs.Each.{with_front}
use Rattle.w16_ne.proofs.entry_table.entries_of.Given as goal

abbrev pub invariant-loop : goal.invariant-loop
invariant-loop g l =
    (l.at ≤ length l.table) × (length l.entries.items ≤ 65535)
    × (with_front l.entries.items (bundles_from l.table l.segments (length l.table - l.counter) l.at (length l.entries.items)) ≡ entries_in l.table l.segments)
