use Rattle.std.proofs.Common.{arith}
use Rattle.w16_lru.proofs.Outcomes.{past, member_at, step}
use Rattle.w16_lru.proofs.Order.nth.Goals as goal

pub returns-then-i-self-clause-value : goal.returns-then-i-self-clause-value
returns-then-i-self-clause-value g c =
    let s = c.self.inside in
    past s.cap s.members s.after.items s.before.items c.args.self.now c.self.invariant c.self.view_is c.args.i c.if-i-self.true

pub index-id-requires-in-loop-k : goal.index-id-requires-in-loop-k
index-id-requires-in-loop-k g c =
    let s = c.self.inside in
    let lt = member_at s.cap s.members s.after.items s.before.items c.args.self.now c.self.invariant c.self.view_is c.loop-k._k c.loop-k.id c.loop-k.invariant in
    let long = c.self.invariant.after_long in let len = s.after.ok.0 in
    omega arith

pub loop-k-preserved : goal.loop-k-preserved
loop-k-preserved g c =
    let s = c.self.inside in
    step s.cap s.members s.after.items s.before.items c.args.self.now c.self.invariant c.self.view_is
    c.loop-k._k c.loop-k.id c.index-id-in-loop-k.result.now (let lt = c.loop-k-test.true in let some = c.if-i-self.false in omega arith) c.loop-k.invariant c.index-id-in-loop-k.ensures
