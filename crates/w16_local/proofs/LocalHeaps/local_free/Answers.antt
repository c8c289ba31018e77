use Rattle.w16_local.proofs.{Common.◌∙◌, Common.Free, Acting.lent_in, Acting.may_in, Calling.free_calls, Calling.free_none, Calling.free_refused, Calling.named_there}
use Rattle.w16_local.proofs.LocalHeaps.local_free.Goals as goal

pub returns-in_default-clause-step : goal.returns-in_default-clause-step
returns-in_default-clause-step g c = free_none c.args.global.now.handles c.args.self.now c.args.ds c.args.name c.in_default.ensures.none

pub returns-then-not-may_free-clause-step : goal.returns-then-not-may_free-clause-step
returns-then-not-may_free-clause-step g c = let n = c.in-Some.ensures.some in free_refused n (c.may_free.ensures n.heap.bytes n.heap.over ∙ c.if-not-may_free.true)

pub work_on-requires : goal.work_on-requires
work_on-requires g c = let n = c.in-Some.ensures.some in may_in n.heap (Free c.in-Some.field-0.id) (named_there n, c.may_free.ensures n.heap.bytes n.heap.over ∙ c.if-not-may_free.false)

pub returns-clause-step : goal.returns-clause-step
returns-clause-step g c = let n = c.in-Some.ensures.some in free_calls n c.work_on.ensures.acted

pub returns-clause-written : goal.returns-clause-written
returns-clause-written g c = let n = c.in-Some.ensures.some in lent_in n.heap c.work_on.new.global c.work_on.ensures.lent
