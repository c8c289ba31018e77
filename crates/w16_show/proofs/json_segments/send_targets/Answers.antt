use Rattle.std.proofs.Common.{map}
use Rattle.w16_show.specs.Json.{target_json}
use Rattle.w16_show.proofs.Sending.{items-begin, items-more, items-end, on-ok}
use Rattle.w16_show.proofs.json_segments.send_targets.Goals as goal

pub loop-target-init : goal.loop-target-init
loop-target-init g c = rw (c.into_iter-target-iterator.ensures.into_iter_gives, c.values-target-items.ensures.rest) (items-begin _ _ _ c.in_ok-write_all.ensures.bytes)

pub loop-target-preserved : goal.loop-target-preserved
loop-target-preserved g c =
    let put = c.in_ok-push_target.ensures in
    items-more _ _ _ _ (target_json c.args.file.now c.args.tables.now c.in-Some.target.now) (map (target_json c.args.file.now c.args.tables.now) c.next.new.self) _ (rw c.in-Some.ensures.steps at c.loop-target.invariant)
    (rw (c.as_bytes.ensures.value, put.0, c.in_ok-push_str.ensures.bytes, c.clear.ensures.bytes, c.comma.ensures) at c.in_ok-write_all-2.ensures.bytes) put.1

pub returns : goal.returns
returns g c = on-ok c.write_all-2.result c.write_all-2.ensures.bytes (items-end _ _ _ c.loop-target.later _ (rw c.in-None.ensures.steps.0 at c.loop-target.invariant))
