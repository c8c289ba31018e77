use Rattle.w16_holes.proofs.Common.{ℕ, ◌≡◌, ◌+◌, ◌*◌, ◌-◌, ap, arith, ◌∙◌, Some, None, nat_le, max, option_map, position}
use Rattle.w16_holes.proofs.Look.{lowest_is, lowest_inside}
use Rattle.w16_holes.proofs.side.SideHolesHoles.lowest.Goals as goal

pub bytes_before-requires-clause-small : goal.bytes_before-requires-clause-small
bytes_before-requires-clause-small g c =
    let s = c.self.inside in
    let is = c.in-Some.ensures ∙ ap (λ n. position (nat_le n) s.lengths) c.max.ensures in
    let r = lowest_inside s.grain (s.hi - s.lo) c.args.n s.lengths c.in-Some.unit is c.self.invariant.inside in omega arith

pub overflow_add-result : goal.overflow_add-result
overflow_add-result g c =
    let s = c.self.inside in
    let is = c.in-Some.ensures ∙ ap (λ n. position (nat_le n) s.lengths) c.max.ensures in
    let r = lowest_inside s.grain (s.hi - s.lo) c.args.n s.lengths c.in-Some.unit is c.self.invariant.inside in record { fits = omega arith }

pub returns-in-Some : goal.returns-in-Some
returns-in-Some g c =
    let s = c.self.inside in
    let is = c.in-Some.ensures ∙ ap (λ n. position (nat_le n) s.lengths) c.max.ensures in
    rw (← c.self.view_is) (ap (λ n. Some (s.lo + n)) c.bytes_before.ensures ∙ ap (option_map (λ k. s.lo + s.grain * k)) is ∙ lowest_is s.grain s.lo _ _)

pub returns-in-None : goal.returns-in-None
returns-in-None g c =
    let s = c.self.inside in
    let is = c.in-None.ensures ∙ ap (λ n. position (nat_le n) s.lengths) c.max.ensures in
    rw (← c.self.view_is) (ap (option_map (λ k. s.lo + s.grain * k)) is ∙ lowest_is s.grain s.lo _ _)
