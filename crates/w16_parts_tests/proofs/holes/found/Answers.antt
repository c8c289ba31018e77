use Rattle.std.proofs.Common.{refl, sym, subst}
use Rattle.w16_holes.specs.Holes.{Range, IsPlace}
use Rattle.w16_parts_tests.proofs.holes.found.Goals as goal

pub at-requires-clause-place : goal.at-requires-clause-place
at-requires-clause-place g c = subst (λ (r : Range). IsPlace r c.in-At.place) (sym c.requires.range) (c.if-is_place.ensures refl)

pub ending_at-requires-clause-place : goal.ending_at-requires-clause-place
ending_at-requires-clause-place g c = subst (λ (r : Range). IsPlace r c.in-EndingAt.place) (sym c.requires.range) (c.if-is_place-2.ensures refl)
