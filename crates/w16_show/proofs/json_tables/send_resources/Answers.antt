use Rattle.std.proofs.Common.{◌+◌, arith}
use Rattle.w16_ne.specs.Modules.{listed_resources}
use Rattle.w16_show.specs.Json.{resource_json}
use Rattle.w16_show.proofs.Numbering.{got-some, got-resource, listed-count}
use Rattle.w16_show.proofs.Sending.{items-begin, items-next, items-last, on-ok}
use Rattle.w16_show.proofs.json_tables.send_resources.Goals as goal

pub loop-i-init : goal.loop-i-init
loop-i-init g c = items-begin _ _ _ c.in_ok-write_all.ensures.bytes

pub loop-i-preserved : goal.loop-i-preserved
loop-i-preserved g c =
    let xs = listed_resources c.args.tables.now.resources in
    let r = got-some xs c.loop-i.i (omega (arith, c.loop-i-test.true, c.resource_count-i-end.ensures.count, listed-count c.args.tables.now.resources)) in
    let made = c.in_ok-resource.ensures r.0 (got-resource c.args.tables.now.resources c.loop-i.i r.0 r.1) in
    items-next resource_json _ _ _ _ _ _ (c.loop-i.i + 1) xs c.loop-i.i r.0 r.1 c.loop-i.invariant (rw made.0 at (c.in_ok-later.ensures (rw made.0 made.1)))

pub returns : goal.returns
returns g c =
    let xs = listed_resources c.args.tables.now.resources in
    on-ok c.write_all-2.result c.write_all-2.ensures.bytes (items-last resource_json _ _ _ _ _ (c.loop-i.i + 1) xs c.loop-i.i (omega (arith, c.loop-i-test.false, c.resource_count-i-end.ensures.count, listed-count c.args.tables.now.resources)) c.loop-i.invariant)
