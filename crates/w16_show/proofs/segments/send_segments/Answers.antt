use Rattle.std.proofs.Common.{◌+◌, ◌∙◌, refl, arith}
use Rattle.w16_show.specs.Text.{whole_segment}
use Rattle.w16_show.proofs.Numbering.{got-some}
use Rattle.w16_show.proofs.Sending.{leaves-all, leaves-next, leaves-end}
use Rattle.w16_show.proofs.segments.send_segments.Goals as goal

pub loop-i-init : goal.loop-i-init
loop-i-init g c = (refl, λ is. leaves-all _ _)

pub loop-i-preserved : goal.loop-i-preserved
loop-i-preserved g c = (
  c.in_ok-send_segment.ensures.same ∙ c.loop-i.invariant.0,
  λ is.
      let s = got-some c.args.tables.now.segments c.loop-i.i (omega (arith, c.loop-i-test.true, c.segment_count-i-end.ensures.count)) in
      leaves-next (whole_segment c.args.file.now c.args.tables.now) _ _ _ _ (c.loop-i.i + 1) c.args.tables.now.segments c.loop-i.i s.0 s.1 (c.loop-i.invariant.1 is) (c.in_ok-send_segment.ensures.text s.0 (rw c.loop-i.invariant.0 is) s.2),
)

pub returns-clause-text : goal.returns-clause-text
returns-clause-text g c = λ is. leaves-end (whole_segment c.args.file.now c.args.tables.now) _ _ _ (c.loop-i.i + 1) c.args.tables.now.segments c.loop-i.i (omega (arith, c.loop-i-test.false, c.segment_count-i-end.ensures.count)) (c.loop-i.invariant.1 is)
