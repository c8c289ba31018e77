use Rattle.std.proofs.Common.{arith}
use Rattle.w16_show.specs.Json.{name_json}
use Rattle.w16_show.proofs.Sending.{items-begin, items-next, items-last, on-ok}
use Rattle.w16_show.proofs.json_tables.send_names.Goals as goal

pub loop-i-init : goal.loop-i-init
loop-i-init g c = items-begin _ _ _ c.in_ok-write_all.ensures.bytes

pub loop-i-preserved : goal.loop-i-preserved
loop-i-preserved g c =
    let made = rw c.resident_count.ensures at c.in_ok-name.ensures in
    items-next (name_json c.args.tables.now.resident) _ _ _ _ _ _ c.loop-i.i c.args.tables.now.names c.loop-i.i _ c.entry_name-ordinal.ensures.found c.loop-i.invariant (rw made.0 at (c.in_ok-later.ensures (rw made.0 made.1)))

pub returns : goal.returns
returns g c = on-ok c.write_all-2.result c.write_all-2.ensures.bytes (items-last (name_json c.args.tables.now.resident) _ _ _ _ _ c.loop-i.i c.args.tables.now.names c.loop-i.i (omega (arith, c.loop-i-test.false, c.name_count-i-end.ensures)) c.loop-i.invariant)
