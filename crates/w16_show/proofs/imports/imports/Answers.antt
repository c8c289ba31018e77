use Rattle.std.proofs.Common.{◌∙◌, arith}
use Rattle.w16_reloc.specs.Segments.{checked}
use Rattle.w16_show.specs.Imports.{targets_in}
use Rattle.w16_show.proofs.{Numbering.got-some, Imported.next-imports}
use Rattle.w16_show.proofs.imports.imports.Goals as goal

pub loop-i-preserved : goal.loop-i-preserved
loop-i-preserved c = (
  c.in_ok-add_segment.ensures.same ∙ c.loop-i.invariant.0,
  λ file is.
      let segments = c.args.tables.now.segments in
      let s = got-some segments c.loop-i.i (omega (arith, c.loop-i-test.true, c.segment_count-i-end.ensures.count)) in
      let after = c.in_ok-add_segment.ensures.imports file s.0 (rw c.loop-i.invariant.0 is) s.2 in
      next-imports (λ s. targets_in (checked file c.args.tables.now s)) s.0 c.loop-i.imports.entries segments c.loop-i.i _ s.1 after ∙ c.loop-i.invariant.1 file is,
)
