use Rattle.w16_local.proofs.Common.{arith, inl, inr}
use Rattle.w16_local.proofs.Growing.{grown_written, has_grown, kept_short, may_act, segment_there}
use Rattle.w16_local.proofs.LocalHeaps.grow.Goals as goal

pub lengthen-answer-requires : goal.lengthen-answer-requires
lengthen-answer-requires g c = segment_there c.args.global.now.handles.heap c.args.slot c.requires.bytes c.requires.had

pub work_on-requires : goal.work_on-requires
work_on-requires g c = may_act c.requires c.reveal_handles.ensures c.growth_flags-flags.result.0 c.growth_flags-flags.ensures
    c.lengthen-answer.result c.lengthen-answer.new.self c.lengthen-answer.ensures.step
    (λ e. let some = c.if-answer-eq0.false in omega (arith, some, e)) c.sweep.new.self c.sweep.ensures

pub returns-then-answer-eq0-clause-grown : goal.returns-then-answer-eq0-clause-grown
returns-then-answer-eq0-clause-grown g c = kept_short c.requires c.reveal_handles.ensures c.growth_flags-flags.result.0
    c.growth_flags-flags.ensures c.lengthen-answer.result c.lengthen-answer.new.self c.lengthen-answer.ensures.step
    c.if-answer-eq0.true (c.lengthen-answer.ensures.refused c.if-answer-eq0.true)

pub returns-then-answer-eq0-clause-written : goal.returns-then-answer-eq0-clause-written
returns-then-answer-eq0-clause-written g c = inl (c.lengthen-answer.ensures.refused c.if-answer-eq0.true)

pub returns-clause-grown : goal.returns-clause-grown
returns-clause-grown g c = has_grown c.requires c.reveal_handles.ensures c.growth_flags-flags.result.0
    c.growth_flags-flags.ensures c.lengthen-answer.result c.lengthen-answer.new.self c.lengthen-answer.ensures.step
    (λ e. let some = c.if-answer-eq0.false in omega (arith, some, e)) c.sweep.new.self c.sweep.ensures c.work_on.result
    c.work_on.new.global.handles c.work_on.new.self c.work_on.ensures.acted

pub returns-clause-written : goal.returns-clause-written
returns-clause-written g c = inr (grown_written c.requires c.reveal_handles.ensures c.growth_flags-flags.result.0
    c.growth_flags-flags.ensures c.lengthen-answer.result c.lengthen-answer.new.self c.lengthen-answer.ensures.step
    (λ e. let some = c.if-answer-eq0.false in omega (arith, some, e)) c.sweep.new.self c.sweep.ensures c.work_on.result
    c.work_on.new.global.handles c.work_on.new.self c.work_on.ensures.acted _ c.work_on.ensures.lent)
