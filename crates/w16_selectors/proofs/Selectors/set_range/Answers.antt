use Rattle.w16_selectors.proofs.Represented.{SelectorsInvariant-written, AreTaken-written}
use Rattle.w16_selectors.proofs.Selectors.set_range.Goals as goal

pub invariant_of-self : goal.invariant_of-self
invariant_of-self g c =
    let taken = rw (← c.self.view_is) at c.requires.taken in
    (SelectorsInvariant-written _ _ _ _ c.self.invariant.0 taken c.requires.inside, AreTaken-written _ _ _ _ c.self.invariant.1 taken)
