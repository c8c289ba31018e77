use Rattle.std.proofs.Common.{drop}
use Rattle.w16_picture.specs.Bands.{IsPlaces}
use Rattle.w16_picture.proofs.bands.places.Given as goal

-- the table is of the rectangles from this one on
abbrev pub invariant-loop-i : goal.invariant-loop-i
invariant-loop-i l = IsPlaces l.places (drop l.i l.rects)
