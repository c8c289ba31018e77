use Rattle.w16_holes.proofs.{Common.Range, Steps.AreHoles-cells}
use Rattle.w16_holes.proofs.side.SideHoles.reveal_order.Goals as goal

pub returns-clause-ordered : goal.returns-clause-ordered
returns-clause-ordered g c =
    let s = c.self.inside in
    let range : Range = record { lo = s.lo; hi = s.hi; grain = s.grain } in
    rw (← c.self.view_is) (AreHoles-cells range _ c.self.invariant)
