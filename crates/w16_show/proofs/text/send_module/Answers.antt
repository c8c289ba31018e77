use Rattle.std.proofs.KnownBytes.{Appends-trans}
use Rattle.w16_show.proofs.Sending.{on-ok}
use Rattle.w16_show.proofs.text.send_module.Goals as goal

pub returns-clause-text : goal.returns-clause-text
returns-clause-text g c = λ is.
    let header = rw (c.as_bytes.ensures.value, c.in_ok-push_header_part.ensures, c.clear.ensures.bytes) at c.in_ok-write_all.ensures.bytes in
    let entries = rw (c.as_bytes-2.ensures.value, c.in_ok-push_entries_part.ensures, c.clear-2.ensures.bytes) at c.in_ok-write_all-2.ensures.bytes in
    on-ok c.send_resources_part.result c.send_resources_part.ensures (Appends-trans _ _ _ _ _
    (Appends-trans _ _ _ _ _ (Appends-trans _ _ _ _ _ (Appends-trans _ _ _ _ _ header (c.in_ok-send_segments_part.ensures.text is)) entries)
    (c.in_ok-send_references_part.ensures.text (rw c.in_ok-send_segments_part.ensures.same is))))
