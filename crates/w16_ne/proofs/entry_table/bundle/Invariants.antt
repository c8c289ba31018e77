use Rattle.w16_ne.proofs.Common.{◌≡◌, ◌-◌, ◌*◌, ◌+◌, ℕ, Option, Reading, each, entry_size, sound_entry, bundle_in}
use Rattle.w16_ne.proofs.Each.{with_front}
use Rattle.w16_ne.specs.{declared.entry_table.Entry.Entry, Entries.entry_in}
use Rattle.w16_ne.proofs.entry_table.bundle.Given as goal

abbrev pub invariant-loop-i : goal.invariant-loop-i
invariant-loop-i g l =
    let item : ℕ → Reading (Option Entry) = λ i. sound_entry l.segments (entry_in l.table l.indicator (l.at + i * entry_size l.indicator)) in
    with_front l.entries.items (each item (l.count - l.i) l.i) ≡ bundle_in l.table l.segments l.indicator l.count l.at
