use Rattle.w16_lru.proofs.Outcomes.{first_some}
use Rattle.w16_lru.proofs.Order.first.Goals as goal

pub returns-clause-value : goal.returns-clause-value
returns-clause-value g c =
    let s = c.self.inside in
    first_some s.cap s.members s.after.items s.before.items c.args.self.now c.self.invariant c.self.view_is _ c.index-oldest.ensures c.if-oldest-self.false
