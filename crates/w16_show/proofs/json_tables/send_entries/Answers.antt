use Rattle.std.proofs.Common.{◌+◌, arith}
use Rattle.w16_show.specs.Json.{entry_json}
use Rattle.w16_show.proofs.Numbering.{got-entry}
use Rattle.w16_show.proofs.Sending.{items-begin, items-next, items-last, on-ok}
use Rattle.w16_show.proofs.json_tables.send_entries.Goals as goal

pub loop-i-init : goal.loop-i-init
loop-i-init g c = items-begin _ _ _ c.in_ok-write_all.ensures.bytes

pub loop-i-preserved : goal.loop-i-preserved
loop-i-preserved g c =
    items-next entry_json _ _ _ _ _ _ (c.loop-i.i + 1) c.args.tables.now.entries c.loop-i.i _ (got-entry c.args.tables.now.entries c.loop-i.i (omega (arith, c.loop-i-test.true))) c.loop-i.invariant (rw c.entry.ensures at c.in_ok-later.ensures)

pub returns : goal.returns
returns g c = on-ok c.write_all-2.result c.write_all-2.ensures.bytes (items-last entry_json _ _ _ _ _ (c.loop-i.i + 1) c.args.tables.now.entries c.loop-i.i (omega (arith, c.loop-i-test.false, c.entry_count-i-end.ensures.count)) c.loop-i.invariant)
