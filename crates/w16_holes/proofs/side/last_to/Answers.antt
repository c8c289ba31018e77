use Rattle.std.proofs.Common.{arith, ◌∙◌}
use Rattle.w16_holes.proofs.Last.{last_here, last_lower_down}
use Rattle.w16_holes.proofs.side.last_to.Goals as goal

pub returns-then-get-gt0 : goal.returns-then-get-gt0
returns-then-get-gt0 g c = let is = c.get.ensures in let has = c.if-get-gt0.true in last_here _ _ (omega arith)

pub returns-else-get-gt0 : goal.returns-else-get-gt0
returns-else-get-gt0 g c = let is = c.get.ensures in let none = c.if-get-gt0.false in c.requires.below (omega arith) ∙ last_lower_down c.args.lengths.now c.args.unit (omega arith)
