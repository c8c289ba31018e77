use Rattle.w16_local.proofs.Serving as M
use Rattle.w16_local.proofs.LocalHeaps.serve.Goals as goal

pub returns-in-Answered-clause-served : goal.returns-in-Answered-clause-served
returns-in-Answered-clause-served g c = M.served_now c.args.request c.in-Answered.answer c.in-Answered.ensures.acted

pub returns-in-Answered-clause-written : goal.returns-in-Answered-clause-written
returns-in-Answered-clause-written g c = M.once_writes c.args.global.now c.work_on.new.global c.args.request c.in-Answered.ensures.acted c.work_on.ensures.lent

pub returns-in-Lacks-None-clause-written : goal.returns-in-Lacks-None-clause-written
returns-in-Lacks-None-clause-written g c = M.once_writes c.args.global.now c.work_on.new.global c.args.request c.in-Lacks-None.ensures.acted c.work_on.ensures.lent

pub returns-in-Lacks-None-clause-served : goal.returns-in-Lacks-None-clause-served
returns-in-Lacks-None-clause-served g c = M.served_still c.args.request c.in-Lacks-None.field-0 c.in-Lacks-None.ensures.acted c.in-Lacks-None.field-0-is

pub grow-requires : goal.grow-requires
grow-requires g c = M.may_grow c.args.request c.in-Lacks-Some.field-0 c.in-Lacks-Some.ensures.acted c.in-Lacks-Some.size c.in-Lacks-Some.field-0-is c.requires

pub returns-in-Lacks-Some-clause-served : goal.returns-in-Lacks-Some-clause-served
returns-in-Lacks-Some-clause-served g c = M.served_grown c.args.request c.in-Lacks-Some.field-0 c.in-Lacks-Some.ensures.acted c.in-Lacks-Some.size c.in-Lacks-Some.field-0-is c.grow.ensures.grown

pub returns-in-Lacks-Some-clause-written : goal.returns-in-Lacks-Some-clause-written
returns-in-Lacks-Some-clause-written g c =
    M.grown_writes c.args.global.now c.work_on.new.global c.grow.new.global c.grow.new.self c.args.request c.in-Lacks-Some.field-0 c.in-Lacks-Some.ensures.acted c.work_on.ensures.lent c.grow.ensures.written
