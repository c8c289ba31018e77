use Rattle.std.proofs.Common.{arith}
use Rattle.w16_picture.proofs.Placing.{Fills-length}
use Rattle.w16_picture.proofs.picture.Picture.draw.Goals as goal

pub rectangles-requires-clause-few : goal.rectangles-requires-clause-few
rectangles-requires-clause-few g c = let fits = Fills-length 0 c.args.self.now.memory c.args.items.now c.requires.whole in omega (arith, fits, c.args.self.now.few)

pub invariant_of-self-clause-wide : goal.invariant_of-self-clause-wide
invariant_of-self-clause-wide g c = let fits = Fills-length 0 c.args.self.now.memory c.args.items.now c.requires.whole in omega (arith, fits, c.args.self.now.few, c.args.self.now.wide)
