use Rattle.std.proofs.Common.{◌+◌, sym, ◌∙◌, arith}
use Rattle.w16_show.proofs.{Numbering.got-some, Honest.told_of_segment, Verdicts.unsound-here, Verdicts.unsound-later, Verdicts.passed}
use Rattle.w16_show.proofs.open.first_unsound.Goals as goal

pub returns-in-Err-clause-first : goal.returns-in-Err-clause-first
returns-in-Err-clause-first c = λ file is.
    let s = got-some c.args.tables.now.segments c.loop-i.i (omega (arith, c.loop-i-test.true, c.segment_count-i-end.ensures.count)) in
    let said = c.in-Err.ensures.exact file s.0 tt (rw c.loop-i.invariant.0 is.stored) is.accepted s.2 in
    sym (unsound-here file c.args.tables.now s.0 (c.loop-i.i + 1) c.args.tables.now.segments c.loop-i.i c.in-Err.fault s.1 (told_of_segment c.in-Err.fault _ said)) ∙ c.loop-i.invariant.1 file is

pub loop-i-preserved : goal.loop-i-preserved
loop-i-preserved c = (
  c.in_default.ensures.stays.same ∙ c.loop-i.invariant.0,
  λ file is.
      let s = got-some c.args.tables.now.segments c.loop-i.i (omega (arith, c.loop-i-test.true, c.segment_count-i-end.ensures.count)) in
      let said = c.check.ensures.exact file s.0 tt (rw c.loop-i.invariant.0 is.stored) is.accepted s.2 in
      passed c.check.result _ _ _ _ said c.in_default.not-Err (λ held e. unsound-later file c.args.tables.now s.0 (c.loop-i.i + 1) c.args.tables.now.segments c.loop-i.i held s.1 e) ∙ c.loop-i.invariant.1 file is,
)
