use Rattle.std.proofs.Common.{arith}
use Rattle.w16_show.specs.Text.{entry_text}
use Rattle.w16_show.proofs.Numbering.{numbered-step, got-entry}
use Rattle.w16_show.proofs.entries.push_entries.Goals as goal

pub loop-i-preserved : goal.loop-i-preserved
loop-i-preserved c = numbered-step entry_text _ _ _ _ c.args.tables.now.entries c.loop-i.i _ (got-entry c.args.tables.now.entries c.loop-i.i (omega (arith, c.loop-i-test.true))) (rw c.entry.ensures at c.in_ok-push_entry.ensures) c.loop-i.invariant
