use Rattle.w16_ne.proofs.Common.{ℕ, ◌*◌, ◌+◌, Option, err_from_is_err_and, Reading, entry_size, sound_entry}
use Rattle.w16_ne.proofs.{Each.goes_on, Each.stops, Until.told_on}
use Rattle.w16_ne.specs.{declared.entry_table.Entry.Entry, Entries.entry_in}
use Rattle.w16_ne.proofs.entry_table.bundle.Goals as goal

pub returns-in_err-entry : goal.returns-in_err-entry
returns-in_err-entry g c =
    let item : ℕ → Reading (Option Entry) = λ i. sound_entry c.args.segments (entry_in c.args.table.now c.args.indicator (c.args.at + i * entry_size c.args.indicator)) in
    let p = err_from_is_err_and c.from_residual.result c.from_residual.ensures.1 in
    let said = rw (c.entry_at.ensures, c.size_of_entry.ensures.size, c.from.ensures) at c.in_err-entry.ensures in
    rw (p.1, p.2) (told_on _ (item c.loop-i.i) _ said (λ e. stops item c.loop-i.entries.items c.args.count c.loop-i.i _ _ c.loop-i-test.true e c.loop-i.invariant))

pub loop-i-preserved : goal.loop-i-preserved
loop-i-preserved g c =
    let item : ℕ → Reading (Option Entry) = λ i. sound_entry c.args.segments (entry_in c.args.table.now c.args.indicator (c.args.at + i * entry_size c.args.indicator)) in
    let said = rw (c.entry_at.ensures, c.size_of_entry.ensures.size, c.from.ensures) at c.in_ok-entry.ensures in
    rw c.in_ok-push.ensures.items (goes_on item c.loop-i.entries.items c.args.count c.loop-i.i c.in_ok-entry.entry _ c.loop-i-test.true said c.loop-i.invariant)
