use Rattle.w16_lru.proofs
use proofs.Common.{arith}
use proofs.Outcomes.{alone_none, as_many, large_none, less}
use proofs.Order.len_without.Goals.{then-id-self-via-then-id-self, then-id-self-via-else-id-self+then-index-id}
use Rattle.w16_lru.proofs.Order.len_without.Goals as goal

pub returns-then-id-self : goal.returns-then-id-self
returns-then-id-self g c =
    let s = c.self.inside in
    as_many s.cap _ s.after.items s.before.items c.args.self.now c.self.invariant c.self.view_is c.args.id
    (elim c.then-id-self.branch [
      | then-id-self-via-then-id-self w ↦ large_none s.cap s.members s.after.items s.before.items c.args.self.now c.self.invariant c.self.view_is _ w.if-id-self.true
      | then-id-self-via-else-id-self+then-index-id w ↦
          let small = w.if-id-self.false in
          alone_none s.cap s.members s.after.items s.before.items c.args.self.now c.self.invariant c.self.view_is
          c.args.id w.index.result.now (omega arith) w.index.ensures w.if-index-id.true
    ])

pub returns : goal.returns
returns g c =
    let s = c.self.inside in
    let large = c.if-id-self.false in
    let one = less s.cap s.members s.after.items s.before.items c.args.self.now c.self.invariant c.self.view_is c.args.id c.index.result.now (omega arith) c.index.ensures c.if-index-id.false in
    omega arith
