use Rattle.w16_selectors.proofs.Represented.{unset_reaches, SelectorsInvariant-written, AreTaken-written}
use Rattle.w16_selectors.proofs.Selectors.vacate.Goals as goal

pub invariant_of-self : goal.invariant_of-self
invariant_of-self g c =
    let taken = rw (← c.self.view_is) at c.requires in
    let unset = c.unset.result in
    (SelectorsInvariant-written _ _ _ unset c.self.invariant.0 taken (unset_reaches unset _ _ c.unset.ensures), AreTaken-written _ _ _ unset c.self.invariant.1 taken)
