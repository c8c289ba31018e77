use Rattle.std.proofs.Common.{sym}
use Rattle.w16_lru.proofs.Outcomes.{count}
use Rattle.w16_lru.proofs.Order.len.Goals as goal

pub returns : goal.returns
returns g c =
    let s = c.self.inside in
    sym (count s.cap _ s.after.items s.before.items c.args.self.now c.self.invariant c.self.view_is)
