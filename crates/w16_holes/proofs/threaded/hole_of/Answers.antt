use Rattle.std.proofs.Common.{◌+◌, arith, sym, ◌∙◌}
use Rattle.w16_holes.proofs.Below.{hole_of}
use Rattle.w16_holes.proofs.threaded.hole_of.Goals as goal

pub returns-then-at-gt0 : goal.returns-then-at-gt0
returns-then-at-gt0 g c =
    let f = c.args.side.now in let some = c.requires.part.some in let e = c.at.ensures in let has = c.if-at-gt0.true in
    let is = hole_of c.args.place (c.args.place + c.args.n) f.range.lo f.range.hi f.holes (omega arith) c.requires.ordered c.requires.free in
    sym (is.begins (omega arith))

pub returns : goal.returns
returns g c =
    let f = c.args.side.now in let some = c.requires.part.some in let e = c.at.ensures in let none = c.if-at-gt0.false in
    let is = hole_of c.args.place (c.args.place + c.args.n) f.range.lo f.range.hi f.holes (omega arith) c.requires.ordered c.requires.free in
    c.requires.below ∙ sym (is.other (omega arith))
