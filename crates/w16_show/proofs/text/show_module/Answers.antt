use Rattle.std.proofs.KnownBytes.{Appends-trans}
use Rattle.w16_show.proofs.text.show_module.Goals as goal

pub returns-clause-text : goal.returns-clause-text
returns-clause-text g c = λ is.
    let title = rw (c.as_bytes.ensures.value, c.in_ok-push_title.ensures, c.new-line.ensures.bytes) at c.in_ok-write_all.ensures.bytes in
    let verdict = rw (c.as_bytes-2.ensures.value, c.in_ok-push_verdict.ensures, c.clear.ensures.bytes, c.verdict-verdict.ensures.verdict c.args.file.now is) at c.in_ok-write_all-2.ensures.bytes in
    Appends-trans _ _ _ _ _ (Appends-trans _ _ _ _ _ title (c.in_ok-send_module.ensures.text (rw c.verdict-verdict.ensures.same is))) verdict
