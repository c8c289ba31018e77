use Rattle.w16_lru.proofs.Common.{ℕ, ◌≡◌, ◌-◌, ◌≤◌, length, arith, sym, ap, ◌∙◌, slice_get}
use Rattle.w16_lru.proofs.Walks.{steps, some_left, next_place}
use Rattle.w16_lru.proofs.oldest_first.OldestFirstIterator.next.Goals as goal

pub returns-clause-steps : goal.returns-clause-steps
returns-clause-steps g c = steps c.args.self.now.order.now.ids c.args.self.now.left _ c.requires.0 (sym c.in_ok-id.was ∙ c.requires.1)

pub returns-clause-goes : goal.returns-clause-goes
returns-clause-goes g c =
    let ids = c.args.self.now.order.now.ids in let left = c.args.self.now.left in
    let at = sym c.in_ok-id.was ∙ c.requires.1 in
    let some = some_left ids left c.in_ok-id.id c.requires.0 at in let le = c.requires.0 in
    let may : (left - 1 ≤ length ids) × (c.next-self.result ≡ slice_get ids (length ids - (left - 1))) =
    (omega arith, c.next-self.ensures.behind (length ids - left) (sym at) ∙ ap (slice_get ids) (next_place ids left _ le at)) in
    let fewer = ap (length {A = ℕ}) (steps ids left _ le at) in
    record { on = λ finite. (may, tt, omega (arith, fewer)); keeps = may; rests = λ finite. tt }
