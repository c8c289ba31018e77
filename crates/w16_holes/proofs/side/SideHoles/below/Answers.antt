use Rattle.w16_holes.proofs.Common.{ℕ, ◌+◌, ap, arith, ◌∙◌, Some, None, subst, Range, Free, AreHoles, Inside}
use Rattle.w16_holes.proofs.{Last.last_is, Last.last_lower, Steps.AreHoles-cells}
use Rattle.w16_holes.proofs.side.SideHoles.below.Goals as goal

abbrev range : {Z : Type 0} → Inside Z → Range
range s = record { lo = s.lo; hi = s.hi; grain = s.grain }

pub bytes_before-requires-clause-small : goal.bytes_before-requires-clause-small
bytes_before-requires-clause-small g c =
    let s = c.self.inside in
    let le = last_lower s.grain s.lengths c.unit_of-unit.result c.in-Some.begin c.in-Some.ensures in
    let is = c.unit_of-unit.ensures in omega arith

pub overflow_add-result : goal.overflow_add-result
overflow_add-result g c =
    let s = c.self.inside in
    let le = last_lower s.grain s.lengths c.unit_of-unit.result c.in-Some.begin c.in-Some.ensures in
    let is = c.unit_of-unit.ensures in
    let from = c.requires.from in
    let low = ap (λ f. f.range.lo) c.self.view_is in
    record { fits = omega arith }

pub returns-in_default-clause-value : goal.returns-in_default-clause-value
returns-in_default-clause-value g c =
    let s = c.self.inside in
    let is = c.unit_of-unit.ensures in
    let from = c.requires.from in
    let low = ap (λ f. f.range.lo) c.self.view_is in
    rw (← c.self.view_is) (last_is s.grain s.lo c.unit_of-unit.result _ _ None c.self.invariant.some (omega arith) c.in_default.ensures)

pub returns-in_default-clause-unit : goal.returns-in_default-clause-unit
returns-in_default-clause-unit g c =
    let s = c.self.inside in
    let is = c.unit_of-unit.ensures in
    let from = c.requires.from in
    let low = ap (λ f. f.range.lo) c.self.view_is in
    rw (← c.self.view_is) (last_is s.grain s.lo c.unit_of-unit.result _ _ None c.self.invariant.some (omega arith) c.in_default.ensures)

pub returns-in_default-clause-ordered : goal.returns-in_default-clause-ordered
returns-in_default-clause-ordered g c = subst (λ f. AreHoles f.range.lo f.range.hi f.holes) c.self.view_is (AreHoles-cells (range c.self.inside) c.self.inside.lengths c.self.invariant)

pub returns-clause-value : goal.returns-clause-value
returns-clause-value g c =
    let s = c.self.inside in
    let is = c.unit_of-unit.ensures in
    let from = c.requires.from in
    let low = ap (λ f. f.range.lo) c.self.view_is in
    rw (← c.self.view_is) (ap (λ n. Some (s.lo + n)) c.bytes_before.ensures ∙ last_is s.grain s.lo c.unit_of-unit.result _ _ (Some _) c.self.invariant.some (omega arith) c.in-Some.ensures)

pub returns-clause-unit : goal.returns-clause-unit
returns-clause-unit g c =
    let s = c.self.inside in
    let is = c.unit_of-unit.ensures in
    let from = c.requires.from in
    let low = ap (λ f. f.range.lo) c.self.view_is in
    rw (← c.self.view_is) (last_is s.grain s.lo c.unit_of-unit.result _ _ (Some _) c.self.invariant.some (omega arith) c.in-Some.ensures)

pub returns-clause-ordered : goal.returns-clause-ordered
returns-clause-ordered g c = subst (λ f. AreHoles f.range.lo f.range.hi f.holes) c.self.view_is (AreHoles-cells (range c.self.inside) c.self.inside.lengths c.self.invariant)
