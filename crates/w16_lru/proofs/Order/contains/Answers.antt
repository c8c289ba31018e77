use Rattle.std.proofs.Common.{◌∙◌, ap, sym, inl, inr, not}
use Rattle.std.proofs.{lemmas.Bool.le-ltb, lemmas.Bool.Decides.eqb_tells}
use Rattle.w16_lru.proofs.Outcomes.{alone_none, large_none, there}
use Rattle.w16_lru.proofs.Order.contains.Goals as goal

pub returns-then-id-self : goal.returns-then-id-self
returns-then-id-self g c =
    let s = c.self.inside in let next = c.index.result.now in
    elim (eqb_tells next c.args.id) [
      | inl same ↦
          ap not same.0 ∙ sym (alone_none s.cap s.members s.after.items s.before.items c.args.self.now c.self.invariant c.self.view_is _ next c.if-id-self.true c.index.ensures same.1)
      | inr other ↦
          ap not other.0 ∙ sym (there s.cap s.members s.after.items s.before.items c.args.self.now c.self.invariant c.self.view_is _ next c.if-id-self.true c.index.ensures other.1)
    ]

pub returns-else-id-self : goal.returns-else-id-self
returns-else-id-self g c =
    let s = c.self.inside in
    le-ltb _ s.cap c.if-id-self.false ∙ sym (large_none s.cap s.members s.after.items s.before.items c.args.self.now c.self.invariant c.self.view_is c.args.id c.if-id-self.false)
