use Rattle.std.proofs.Common.{inl, inr, arith}
use Rattle.w16_lru.proofs.Outcomes.{next_some, next_none}
use Rattle.w16_lru.proofs.Order.next.Goals as goal
use Rattle.w16_lru.proofs.Order.next.Goals.{then-next-self-via-then-next-self, then-next-self-via-else-next-self+then-next-id}

pub returns-then-next-self-clause-behind : goal.returns-then-next-self-clause-behind
returns-then-next-self-clause-behind g c = λ i at.
    let s = c.self.inside in
    next_none s.cap s.members s.after.items s.before.items c.args.self.now c.self.invariant c.self.view_is
    _ c.index-next.result.now i (omega arith) c.index-next.ensures
    (elim c.then-next-self.branch [
      | then-next-self-via-then-next-self w ↦ inl w.if-next-self.true
      | then-next-self-via-else-next-self+then-next-id w ↦ inr w.if-next-id.true
    ])
    at

pub returns-clause-behind : goal.returns-clause-behind
returns-clause-behind g c = λ i at.
    let s = c.self.inside in
    next_some s.cap s.members s.after.items s.before.items c.args.self.now c.self.invariant c.self.view_is
    _ _ i (omega arith) c.index-next.ensures c.if-next-self.false at
