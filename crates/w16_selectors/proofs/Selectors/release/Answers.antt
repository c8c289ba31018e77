use Rattle.std.proofs.Common.{◌≤◌, None, refl, arith}
use Rattle.w16_model.specs.declared.TheConstants.{FIRST_SLOT}
use Rattle.w16_selectors.proofs.Represented.{SelectorsInvariant-set, AreTaken-give, taken_above}
use Rattle.w16_selectors.proofs.Selectors.release.Goals as goal

pub invariant_of-self : goal.invariant_of-self
invariant_of-self g c =
    let s = c.self.inside in
    let first : FIRST_SLOT ≤ c.args.slot = taken_above s.descriptors.items s.marks.items _ c.self.invariant.0 (rw (← c.self.view_is) at c.requires) in
    let above = c.self.invariant.1.above in
    let least = c.min-self-inside.ensures in (
      SelectorsInvariant-set _ _ _ None c.self.invariant.0 (λ lt. refl) tt,
      AreTaken-give _ s.free_from _ _ c.self.invariant.1 first (omega (arith, least)) (omega (arith, least)) (omega (arith, least, above, first)),
    )
