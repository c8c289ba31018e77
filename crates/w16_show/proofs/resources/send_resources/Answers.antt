use Rattle.std.proofs.Common.{◌+◌, arith}
use Rattle.w16_ne.specs.Modules.{listed_resources}
use Rattle.w16_show.specs.Text.{resource_text}
use Rattle.w16_show.proofs.Numbering.{got-some, got-resource, listed-count}
use Rattle.w16_show.proofs.Sending.{leaves-all, leaves-next, leaves-end}
use Rattle.w16_show.proofs.resources.send_resources.Goals as goal

pub loop-i-init : goal.loop-i-init
loop-i-init g c = leaves-all _ _

pub loop-i-preserved : goal.loop-i-preserved
loop-i-preserved g c =
    let xs = listed_resources c.args.tables.now.resources in
    let r = got-some xs c.loop-i.i (omega (arith, c.loop-i-test.true, c.resource_count-i-end.ensures.count, listed-count c.args.tables.now.resources)) in
    leaves-next resource_text _ _ _ _ (c.loop-i.i + 1) xs c.loop-i.i r.0 r.1 c.loop-i.invariant
    (rw (c.as_bytes.ensures.value, c.in_ok-push_numbered.ensures r.0 (got-resource c.args.tables.now.resources c.loop-i.i r.0 r.1), c.clear.ensures.bytes) at c.in_ok-write_all.ensures.bytes)

pub returns : goal.returns
returns g c =
    leaves-end resource_text _ _ _ (c.loop-i.i + 1) (listed_resources c.args.tables.now.resources) c.loop-i.i (omega (arith, c.loop-i-test.false, c.resource_count-i-end.ensures.count, listed-count c.args.tables.now.resources)) c.loop-i.invariant
