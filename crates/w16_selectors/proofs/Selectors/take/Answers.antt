use Rattle.std.proofs.Common.{Some, arith}
use Rattle.w16_selectors.proofs.Represented.{unset_reaches, SelectorsInvariant-set, AreTaken-set, AreTaken-next}
use Rattle.w16_selectors.proofs.Selectors.take.Goals as goal

pub invariant_of-self : goal.invariant_of-self
invariant_of-self g c =
    let above = c.requires.0 in
    let below = rw (← c.self.view_is) at c.requires.1 in (
      SelectorsInvariant-set _ _ _ _ c.self.invariant.0 (λ lt. absurd (omega arith)) (unset_reaches c.unset.result c.args.kind c.args.number c.unset.ensures),
      AreTaken-next _ _ _ _ c.self.invariant.1 below c.if-self-slot.true,
    )

pub invariant_of-self-else-self-slot : goal.invariant_of-self-else-self-slot
invariant_of-self-else-self-slot g c =
    let above = c.requires.0 in
    let below = rw (← c.self.view_is) at c.requires.1 in (
      SelectorsInvariant-set _ _ _ _ c.self.invariant.0 (λ lt. absurd (omega arith)) (unset_reaches c.unset.result c.args.kind c.args.number c.unset.ensures),
      AreTaken-set _ _ _ _ c.self.invariant.1 below,
    )
