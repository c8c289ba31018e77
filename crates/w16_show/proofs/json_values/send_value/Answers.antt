use Rattle.std.proofs.{Common.refl, KnownBytes.Appends-trans}
use Rattle.w16_show.proofs.ReadsBack.{plain}
use Rattle.w16_show.proofs.json_values.send_value.Goals as goal

pub returns : goal.returns
returns g c = λ p.
    let comma = rw (c.as_bytes.ensures.value, c.comma.ensures) at c.in_ok-write_all.ensures.bytes in
    (Appends-trans _ _ _ _ _ comma (rw (c.deref.ensures.value, c.in_ok-text.ensures.text (plain _ p).3) at c.in_ok-write_all-2.ensures.bytes), p, refl)
