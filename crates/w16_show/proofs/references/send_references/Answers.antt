use Rattle.std.proofs.Common.{◌+◌, arith}
use Rattle.w16_show.specs.Text.{reference_text}
use Rattle.w16_show.proofs.Numbering.{got-less}
use Rattle.w16_show.proofs.Sending.{leaves-all, leaves-next, leaves-end}
use Rattle.w16_show.proofs.references.send_references.Goals as goal

pub loop-i-init : goal.loop-i-init
loop-i-init g c = leaves-all _ _

pub loop-i-preserved : goal.loop-i-preserved
loop-i-preserved g c =
    leaves-next reference_text _ _ _ _ (c.loop-i.i + 1) c.args.tables.now.references c.loop-i.i _ (got-less _ c.loop-i.i _ c.reference.ensures) c.loop-i.invariant (rw (c.as_bytes.ensures.value, c.in_ok-push_reference.ensures, c.clear.ensures.bytes) at c.in_ok-write_all.ensures.bytes)

pub returns : goal.returns
returns g c = leaves-end reference_text _ _ _ (c.loop-i.i + 1) c.args.tables.now.references c.loop-i.i (omega (arith, c.loop-i-test.false, c.reference_count-i-end.ensures)) c.loop-i.invariant
