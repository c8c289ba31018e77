use Rattle.std.proofs.Common.{◌≡◌, take, filter}
use Rattle.w16_picture.specs.Bands.{is_alone}
use Rattle.w16_picture.proofs.bands.alone.Given as goal

abbrev pub invariant-loop-rect : goal.invariant-loop-rect
invariant-loop-rect l = l.alone.items ≡ filter (is_alone l.others) (take l.rect-index l.rects)
