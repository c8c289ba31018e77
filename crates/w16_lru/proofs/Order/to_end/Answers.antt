use Rattle.w16_lru.proofs
use proofs.Outcomes as M
use proofs.Common.{◌≡◌, ◌∙◌, ap, sym, arith, subst, false, ℕ, ◌<◌, get_or, swap, slice_index, with_items, is_member, member_gone, Uses}
use proofs.Outcomes.{IsFront, fits}
use proofs.Order.to_end.Goals.{in-Oldest, in-Newest}
use Rattle.w16_lru.proofs.Order.to_end.Given as given
use Rattle.w16_lru.proofs.Order.to_end.Goals as goal

pub overflow_add-self : goal.overflow_add-self
overflow_add-self g c =
    let s = c.self.inside in
    let le = fits s.cap s.members s.after.items s.before.items c.remove.new.self c.self.invariant c.self.view_is in
    record { fits = omega arith }

module _ (g : given.Over) (c : goal.After-self-3-1 g) where
  none : is_member c.args.id c.remove.new.self.ids ≡ false
  none = ap (λ (u : Uses). is_member c.args.id u.ids) c.remove.ensures.value ∙ member_gone c.args.id c.args.self.now.ids

  small : c.args.id < c.self.inside.cap
  small = let lt = c.requires in let e = ap (λ (u : Uses). u.cap) (c.self.view_is ∙ c.remove.ensures.value) in omega arith

  is_front : IsFront c.self.inside.cap c.self.inside.before.items c.match-end.front c.args.end
  is_front = elim c.match-end.branch [
    | in-Oldest w ↦ subst (IsFront c.self.inside.cap c.self.inside.before.items c.match-end.front) (sym w.in-Oldest.is) w.front-is
    | in-Newest w ↦ subst (IsFront c.self.inside.cap c.self.inside.before.items c.match-end.front) (sym w.in-Newest.is)
        (subst (λ (q : ℕ). q ≡ get_or c.self.inside.before.items c.self.inside.cap q) (sym w.front-is) w.index.ensures)
  ]

  after_is : (with_items c.self.inside.after c.exchange.new.after).items ≡ swap c.self.inside.after.items c.match-end.front c.args.id
  after_is = M.exchanged_after c.self.inside.after c.deref_mut.result.now c.exchange.new.after c.match-end.front c.args.id c.deref_mut.ensures.value c.exchange.ensures.after

  before_is : (with_items c.self.inside.before c.exchange.new.before).items
      ≡ swap c.self.inside.before.items (slice_index c.self.inside.after.items c.match-end.front) (slice_index c.self.inside.after.items c.args.id)
  before_is =
      M.exchanged_before c.self.inside.before c.self.inside.after.items c.deref_mut.result.now c.deref_mut-2.result.now c.exchange.new.before
      c.match-end.front c.args.id c.deref_mut.ensures.value c.deref_mut-2.ensures.value c.exchange.ensures.before

pub invariant_of-self : goal.invariant_of-self
invariant_of-self g c =
    let s = c.self.inside in
    M.joined_kept s.cap _ s.after.items s.before.items c.remove.new.self c.self.invariant c.self.view_is
    c.args.id c.match-end.front (small g c)
    (with_items s.after _).items (with_items s.before c.exchange.new.before).items (after_is g c) (before_is g c) (none g c) c.args.end (is_front g c)

pub returns-clause-value : goal.returns-clause-value
returns-clause-value g c =
    let s = c.self.inside in
    M.joined_value s.cap _ s.after.items s.before.items c.remove.new.self c.self.invariant c.self.view_is
    c.args.id c.match-end.front (small g c)
    (with_items s.after _).items (with_items s.before c.exchange.new.before).items (after_is g c) (before_is g c) (none g c) c.args.end (is_front g c)
    ∙ M.put_back c.args.self.now c.remove.new.self c.args.id c.args.end c.remove.ensures.value

pub returns-clause-uses : goal.returns-clause-uses
returns-clause-uses g c = (invariant_of-self g c).uses
