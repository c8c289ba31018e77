use Rattle.w16_holes.proofs.Common.{ℕ, List, ◌≡◌, ◌+◌, ◌-◌, ◌∙◌, ap, set, sym, subst, slice_index, Range, Free, AreCells, spans, Inside}
use Rattle.w16_holes.proofs.{Units.multiple_sum, Pass.passes_so}
use Rattle.w16_holes.proofs.side.SideHoles.pass.Given as given
use Rattle.w16_holes.proofs.side.SideHoles.pass.Goals as goal

abbrev range : {Z : Type 0} → Inside Z → Range
range s = record { lo = s.lo; hi = s.hi; grain = s.grain }

pub unit_of-behind-requires-clause-grained : goal.unit_of-behind-requires-clause-grained
unit_of-behind-requires-clause-grained g c = let new = c.requires.new in rw (ap (λ f. f.range.grain) c.self.view_is) (multiple_sum _ _ _ new.grained new.rounded)

pub unit_of-next-requires-clause-grained : goal.unit_of-next-requires-clause-grained
unit_of-next-requires-clause-grained g c = let old = c.requires.old in rw (ap (λ f. f.range.grain) c.self.view_is) (multiple_sum _ _ _ old.grained old.rounded)

-- the cells that are set
cells : (g : given.Over) (c : goal.After-set-3 g) → c.set-3.new.self ≡ set (set (set c.self.inside.lengths c.unit_of-behind.result (c.args.from - c.args.to + slice_index c.self.inside.lengths c.unit_of-next.result)) c.unit_of-unit.result 0) c.unit_of-next.result 0
cells g c = c.set-3.ensures ∙ ap (λ xs. set xs c.unit_of-next.result 0) (c.set-2.ensures ∙ ap (λ xs. set xs c.unit_of-unit.result 0) (c.set.ensures ∙ ap (λ k. set c.self.inside.lengths c.unit_of-behind.result (c.args.from - c.args.to + k)) c.get-above.ensures))

pub invariant_of-self : goal.invariant_of-self
invariant_of-self g c =
    let s = c.self.inside in let r = c.requires in
    subst (AreCells _) (sym (cells g c)) (passes_so c.self.invariant c.self.view_is _ _ _ c.unit_of-unit.ensures c.unit_of-behind.ensures c.unit_of-next.ensures r.down r.whole r.new
    r.old r.used).1

pub returns-clause-holes : goal.returns-clause-holes
returns-clause-holes g c =
    let s = c.self.inside in let r = c.requires in
    ap (spans s.grain s.lo) (cells g c) ∙ (passes_so c.self.invariant c.self.view_is _ _ _ c.unit_of-unit.ensures c.unit_of-behind.ensures c.unit_of-next.ensures r.down r.whole r.new
    r.old r.used).0
