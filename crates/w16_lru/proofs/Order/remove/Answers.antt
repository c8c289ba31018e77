use Rattle.w16_lru.proofs
use proofs.Outcomes as M
use proofs.Common.{◌≡◌, arith, swap, slice_index, with_items}
use proofs.Order.remove.Goals.{then-id-self-via-then-id-self, then-id-self-via-else-id-self+then-index-id}
use Rattle.w16_lru.proofs.Order.remove.Given as given
use Rattle.w16_lru.proofs.Order.remove.Goals as goal

pub returns-then-id-self-clause-value : goal.returns-then-id-self-clause-value
returns-then-id-self-clause-value g c =
    let s = c.self.inside in
    M.same_without s.cap s.members s.after.items s.before.items _ c.self.invariant c.self.view_is _
    (elim c.then-id-self.branch [
      | then-id-self-via-then-id-self w ↦ M.large_none s.cap s.members s.after.items s.before.items c.args.self.now c.self.invariant c.self.view_is _ w.if-id-self.true
      | then-id-self-via-else-id-self+then-index-id w ↦
          let small = w.if-id-self.false in
          M.alone_none s.cap s.members s.after.items s.before.items c.args.self.now c.self.invariant c.self.view_is
          c.args.id w.index.result.now (omega arith) w.index.ensures w.if-index-id.true
    ])

after_is : (g : given.Over) (c : goal.After-self-3-1 g) → (with_items c.self.inside.after c.exchange.new.after).items ≡ swap c.self.inside.after.items c.index-front.result.now c.args.id
after_is g c = M.exchanged_after c.self.inside.after c.deref_mut.result.now _ _ _ c.deref_mut.ensures.value c.exchange.ensures.after

before_is : (g : given.Over) (c : goal.After-self-3-1 g)
    → (with_items c.self.inside.before c.exchange.new.before).items
    ≡ swap c.self.inside.before.items (slice_index c.self.inside.after.items c.index-front.result.now) (slice_index c.self.inside.after.items c.args.id)
before_is g c =
    M.exchanged_before c.self.inside.before c.self.inside.after.items c.deref_mut.result.now c.deref_mut-2.result.now c.exchange.new.before
    c.index-front.result.now c.args.id c.deref_mut.ensures.value c.deref_mut-2.ensures.value c.exchange.ensures.before

pub invariant_of-self : goal.invariant_of-self
invariant_of-self g c =
    let s = c.self.inside in
    M.removed_kept s.cap _ s.after.items s.before.items c.args.self.now c.self.invariant c.self.view_is
    c.args.id c.index-front.result.now (let large = c.if-id-self.false in omega arith)
    (with_items s.after _).items (with_items s.before c.exchange.new.before).items (after_is g c) (before_is g c)
    c.index.result.now c.index.ensures c.if-index-id.false c.index-front.ensures

pub returns-clause-value : goal.returns-clause-value
returns-clause-value g c =
    let s = c.self.inside in
    M.removed_value s.cap _ s.after.items s.before.items _ c.self.invariant c.self.view_is
    c.args.id c.index-front.result.now (let large = c.if-id-self.false in omega arith)
    (with_items s.after _).items (with_items s.before c.exchange.new.before).items (after_is g c) (before_is g c)
    c.index.result.now c.index.ensures c.if-index-id.false c.index-front.ensures

pub returns-clause-uses : goal.returns-clause-uses
returns-clause-uses g c = (invariant_of-self g c).uses
