use Rattle.std.proofs.Common.{◌≡◌, map, refl}
use Rattle.serde_json.specs.Written.{comma_if, compact_text}
use Rattle.w16_show.specs.Json.{list, relocation_json, segment_front}
use Rattle.w16_show.proofs.Honest.{told_of_segment, some_same}
use Rattle.w16_show.proofs.Sending.{segment-text, sent-parts}
use Rattle.w16_show.proofs.json_segments.send_segment.Goals as goal

pub returns-in_ok-write_all-in-Ok-2-clause-value : goal.returns-in_ok-write_all-in-Ok-2-clause-value
returns-in_ok-write_all-in-Ok-2-clause-value g c = λ s is got.
    let said = c.in-Ok.ensures.exact c.args.file.now s tt is.stored is.accepted got in
    let same : c.segment-segment.result ≡ s = some_same _ s _ c.segment-segment.ensures.found got in
    let front = rw (c.as_bytes.ensures.value, c.in_ok-push_front-in-Ok.ensures.text, c.in_ok-front-in-Ok.ensures.ok, c.comma.ensures) at c.in_ok-write_all-in-Ok.ensures.bytes in
    let records = c.in_ok-send_relocations-in-Ok.ensures in
    let all = map (relocation_json c.args.file.now c.args.tables.now c.check.new.scratch.held.bytes) c.check.new.scratch.held.records in
    let n = c.args.number in let segment = c.segment-segment.result in
    rw (said, ← same, segment-text n segment all) (sent-parts _ _ _ _ (comma_if c.args.later) (segment_front n segment) (compact_text (list all)) _ front records.0 c.in_ok-write_all-in-Ok-2.ensures.bytes, c.in_ok-push_front-in-Ok.ensures.plain all records.1, refl)

pub returns-in_ok-segment-in-Err-clause-value : goal.returns-in_ok-segment-in-Err-clause-value
returns-in_ok-segment-in-Err-clause-value g c = λ s is got.
    let said = told_of_segment c.in-Err.fault _ (c.in-Err.ensures.exact c.args.file.now s tt is.stored is.accepted got) in
    let same : c.segment-segment.result ≡ s = some_same _ s _ c.segment-segment.ensures.found got in
    let word = rw c.unsound_word.ensures at c.in_ok-word-in-Err.ensures in
    let made = c.in_ok-segment-in-Err.ensures _ word.0 word.1 in
    rw (said, ← same) (rw made.0 at (c.send_value.ensures (rw made.0 made.1)))
