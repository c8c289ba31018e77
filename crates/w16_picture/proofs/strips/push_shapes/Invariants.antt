use Rattle.std.proofs.Common.{◌≡◌, ◌++◌, take, string_bytes}
use Rattle.std.specs.List.{flat_map}
use Rattle.w16_picture.specs.Strips.{shape_in}
use Rattle.w16_picture.proofs.strips.push_shapes.Given as goal

abbrev pub invariant-loop-rect : goal.invariant-loop-rect
invariant-loop-rect l = string_bytes l.out ≡ string_bytes l.initial.out ++ flat_map (shape_in l.shape) (take l.rect-index l.rects)
