use Rattle.std.proofs.Common.{◌≡◌, ◌++◌, drop}
use Rattle.w16_picture.specs.Layout.{rects_from}
use Rattle.w16_picture.proofs.layout.rectangles.Given as goal

abbrev pub invariant-loop-i : goal.invariant-loop-i
invariant-loop-i l = l.rects.items ++ rects_from l.spare l.memory l.i (drop l.i l.items) ≡ rects_from l.spare l.memory 0 l.items
