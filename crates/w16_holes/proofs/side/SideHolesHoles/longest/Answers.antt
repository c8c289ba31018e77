use Rattle.w16_holes.proofs.{Common.◌∙◌, Common.Range, Look.longest_is, Steps.AreHoles-cells}
use Rattle.w16_holes.proofs.side.SideHolesHoles.longest.Goals as goal

pub returns-clause-value : goal.returns-clause-value
returns-clause-value g c = rw (← c.self.view_is) (c.max.ensures ∙ longest_is c.self.inside.grain c.self.inside.lengths c.self.inside.lo)

pub returns-clause-ordered : goal.returns-clause-ordered
returns-clause-ordered g c =
    let s = c.self.inside in
    let range : Range = record { lo = s.lo; hi = s.hi; grain = s.grain } in
    rw (← c.self.view_is) (AreHoles-cells range _ c.self.invariant)
