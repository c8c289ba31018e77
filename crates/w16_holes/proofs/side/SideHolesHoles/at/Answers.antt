use Rattle.w16_holes.proofs.Common.{ap, arith, ◌∙◌, Free}
use Rattle.w16_holes.proofs.Look.{at_is}
use Rattle.w16_holes.proofs.side.SideHolesHoles.at.Goals as goal

pub returns : goal.returns
returns g c =
    let s = c.self.inside in
    let low = ap (λ f. f.range.lo) c.self.view_is in let from = c.requires.place.from in
    rw (← c.self.view_is) (c.get.ensures ∙ at_is s.grain c.self.invariant.some _ s.lo _ _ (omega arith))
