use Rattle.w16_lru.proofs
use proofs.Common.{◌≡◌, ◌<◌, arith, ap, with_items, Uses}
use proofs.Renamed.{relinked}
use proofs.Outcomes.{none_there, renamed_kept, renamed_value, relinked_items}
use Rattle.w16_lru.proofs.Order.rename.Given as given
use Rattle.w16_lru.proofs.Order.rename.Goals as goal

pub returns-then-behind-id-clause-value : goal.returns-then-behind-id-clause-value
returns-then-behind-id-clause-value g c =
    let s = c.self.inside in
    none_there s.cap s.members _ s.before.items _ c.self.invariant c.self.view_is _ _ _
    (let lt = c.requires.id in let e = ap (λ u. u.cap) c.self.view_is in omega arith) c.index-behind.ensures c.if-behind-id.true

module _ (g : given.Over) (c : goal.After-self-2-1 g) where
  after_is : (with_items c.self.inside.after c.relink.new.links).items ≡ relinked c.self.inside.after.items c.index-front.result.now c.args.id c.args.to
  after_is = relinked_items c.self.inside.after c.deref_mut.result.now c.relink.new.links c.index-front.result.now c.args.id c.args.to c.deref_mut.ensures.value c.relink.ensures

  before_is : (with_items c.self.inside.before c.relink-2.new.links).items ≡ relinked c.self.inside.before.items c.index-behind.result.now c.args.id c.args.to
  before_is = relinked_items c.self.inside.before c.deref_mut-2.result.now c.relink-2.new.links c.index-behind.result.now c.args.id c.args.to c.deref_mut-2.ensures.value c.relink-2.ensures

  small : c.args.id < c.self.inside.cap
  small = let lt = c.requires.id in let e = ap (λ (u : Uses). u.cap) c.self.view_is in omega arith

  to_small : c.args.to < c.self.inside.cap
  to_small = let lt = c.requires.to in let e = ap (λ (u : Uses). u.cap) c.self.view_is in omega arith

pub invariant_of-self : goal.invariant_of-self
invariant_of-self g c =
    let s = c.self.inside in
    renamed_kept s.cap _ s.after.items s.before.items c.args.self.now c.self.invariant c.self.view_is
    c.args.id c.args.to c.index-behind.result.now (small g c) c.index-behind.ensures (to_small g c) c.requires.free c.if-behind-id.false c.index-front.ensures
    (with_items s.after _).items (with_items s.before c.relink-2.new.links).items (after_is g c) (before_is g c)

pub returns-clause-value : goal.returns-clause-value
returns-clause-value g c =
    let s = c.self.inside in
    renamed_value s.cap _ s.after.items s.before.items _ c.self.invariant c.self.view_is
    _ _ c.index-behind.result.now (small g c) c.index-behind.ensures (to_small g c) c.requires.free c.if-behind-id.false c.index-front.ensures
    (with_items s.after _).items (with_items s.before c.relink-2.new.links).items (after_is g c) (before_is g c)

pub returns-clause-uses : goal.returns-clause-uses
returns-clause-uses g c = (invariant_of-self g c).uses
