use Rattle.w16_local.proofs.{Common.Compact, Common.local_compact_law, Acting.lent_in, Acting.may_in, Calling.compact_calls, Calling.compact_none}
use Rattle.w16_local.proofs.LocalHeaps.local_compact.Goals as goal

pub returns-in_default-clause-step : goal.returns-in_default-clause-step
returns-in_default-clause-step g c = compact_none c.args.global.now.handles c.args.self.now c.args.ds c.args.size c.in_default.ensures.none

pub work_on-requires : goal.work_on-requires
work_on-requires g c = may_in c.in-Some.ensures.some (Compact c.args.size) tt

pub returns-clause-step : goal.returns-clause-step
returns-clause-step g c = compact_calls c.in-Some.ensures.some c.args.size c.work_on.ensures.acted

pub returns-in_default-clause-fewest : goal.returns-in_default-clause-fewest
returns-in_default-clause-fewest g c = λ rest is at current. local_compact_law _ _ c.args.size _ at is (returns-in_default-clause-step g c rest) current

pub returns-clause-fewest : goal.returns-clause-fewest
returns-clause-fewest g c = λ rest is at current. local_compact_law _ _ c.args.size _ at is (returns-clause-step g c rest) current

pub returns-clause-written : goal.returns-clause-written
returns-clause-written g c = lent_in c.in-Some.ensures.some c.work_on.new.global c.work_on.ensures.lent
