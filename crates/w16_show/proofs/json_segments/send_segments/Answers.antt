use Rattle.std.proofs.Common.{◌+◌, ◌∙◌, refl, arith}
use Rattle.w16_show.specs.Json.{segment_json}
use Rattle.w16_show.proofs.Numbering.{got-some}
use Rattle.w16_show.proofs.Sending.{items-begin, items-next, items-last, on-ok}
use Rattle.w16_show.proofs.json_segments.send_segments.Goals as goal

pub loop-i-init : goal.loop-i-init
loop-i-init g c = (refl, λ is. items-begin _ _ _ c.in_ok-write_all.ensures.bytes)

pub loop-i-preserved : goal.loop-i-preserved
loop-i-preserved g c = (
  c.in_ok-later.ensures.same ∙ c.loop-i.invariant.0,
  λ is.
      let s = got-some c.args.tables.now.segments c.loop-i.i (omega (arith, c.loop-i-test.true, c.segment_count-i-end.ensures.count)) in
      items-next (segment_json c.args.file.now c.args.tables.now) _ _ _ _ _ _ (c.loop-i.i + 1) c.args.tables.now.segments c.loop-i.i s.0 s.1 (c.loop-i.invariant.1 is) (c.in_ok-later.ensures.value s.0 (rw c.loop-i.invariant.0 is) s.2),
)

pub returns-clause-value : goal.returns-clause-value
returns-clause-value g c = λ is.
    on-ok c.write_all-2.result c.write_all-2.ensures.bytes (items-last (segment_json c.args.file.now c.args.tables.now) _ _ _ _ _ (c.loop-i.i + 1) c.args.tables.now.segments c.loop-i.i (omega (arith, c.loop-i-test.false, c.segment_count-i-end.ensures.count)) (c.loop-i.invariant.1 is))
