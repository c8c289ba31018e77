use Rattle.std.proofs.Common.{arith}
use Rattle.w16_local.proofs.Beginning.{init_calls, init_none, may, may_begin, on_any}
use Rattle.w16_local.proofs.LocalHeaps.local_init.Goals as goal

pub returns-in_default-clause-step : goal.returns-in_default-clause-step
returns-in_default-clause-step g c = init_none c.args.global.now.handles c.args.self.now c.args.ds c.args.selector c.args.start c.args.end c.in_default.ensures.none

pub begin-requires : goal.begin-requires
begin-requires g c =
    let m = may c.args.global.now.handles c.args.self.now c.args.ds c.args.selector c.args.start c.args.end _ c.in-Some.ensures.some in
    let low = m.low in let from = m.from.1 in let high = m.high in let to = m.to.1 in
    record { none = m.none; low = omega (arith, low, from); some = m.some; high = omega (arith, high, to); grained = m.from.0 }

pub returns-clause-step : goal.returns-clause-step
returns-clause-step g c = init_calls c.args.global.now.handles c.args.self.now c.args.ds c.args.selector c.args.start c.args.end _ c.in-Some.ensures.some c.begin.new.self c.in_ok-begin.ensures.made

pub returns-in_err-begin-clause-wanted : goal.returns-in_err-begin-clause-wanted
returns-in_err-begin-clause-wanted g c = on_any c.from_residual.result _ (may_begin c.args.global.now.handles c.args.self.now c.args.ds c.args.selector c.args.start c.args.end _ c.in-Some.ensures.some)
