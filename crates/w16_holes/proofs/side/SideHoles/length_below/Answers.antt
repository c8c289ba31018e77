use Rattle.w16_holes.proofs.Common.{ℕ, option_map, ap, arith, sym, subst, ◌∙◌, ◌≡◌, ◌+◌, ◌-◌, ◌*◌, Free, last_before}
use Rattle.w16_holes.proofs.{Look.to_is, Last.last_cell, Told.IsInside-wide}
use Rattle.w16_holes.proofs.side.SideHoles.length_below.Goals as goal

pub begin_of-begin-requires-clause-fits : goal.begin_of-begin-requires-clause-fits
begin_of-begin-requires-clause-fits g c = let small = c.self.invariant.small in IsInside-wide _ (c.self.inside.hi - c.self.inside.lo) _ _ (omega arith) c.self.invariant.inside

pub begin_of-begin-requires-clause-below : goal.begin_of-begin-requires-clause-below
begin_of-begin-requires-clause-below g c =
    let s = c.self.inside in
    let low = ap (λ f. f.range.lo) c.self.view_is in let from = c.requires.place.from in let is = c.unit_of-unit.ensures in
    last_cell s.grain s.lo _ _ _ _ c.self.invariant.some (omega arith)
    (subst (λ f. option_map (λ k. f.range.lo + f.range.grain * k) c.args.below ≡ last_before c.args.place f.holes) (sym c.self.view_is) c.requires.below)

pub returns : goal.returns
returns g c =
    let s = c.self.inside in
    let low = ap (λ f. f.range.lo) c.self.view_is in let from = c.requires.place.from in
    let is : c.args.place - s.lo - c.bytes_before.result ≡ s.grain * c.unit_of-unit.result - s.grain * c.begin_of-begin.result = omega arith in
    rw (← c.self.view_is) (is ∙ to_is s.grain s.lo _ _ _ _ (omega arith) c.self.invariant.apart c.begin_of-begin.ensures)
