use Rattle.std.proofs.lemmas.Option.{slice_get-get_or}
use Rattle.w16_show.specs.Json.{relocation_json}
use Rattle.w16_show.proofs.Sending.{items-step}
use Rattle.w16_show.proofs.json_segments.send_relocations.Goals as goal

pub loop-relocation-preserved : goal.loop-relocation-preserved
loop-relocation-preserved g c =
    let put = rw c.bytes.ensures at c.in_ok-push_relocation.ensures in
    let sent = rw (c.as_bytes.ensures.value, put.0, c.in_ok-push_str.ensures.bytes, c.clear.ensures.bytes, c.comma.ensures) at c.in_ok-write_all-2.ensures.bytes in
    let xs = c.records-relocation-items.result.now in
    let i = c.loop-relocation.relocation-index in
    items-step (relocation_json c.args.file.now c.args.tables.now c.args.scratch.now.held.bytes) _ _ _ _ _ xs i _ (slice_get-get_or xs i _ c.loop-relocation-test.true) c.loop-relocation.invariant sent put.1
