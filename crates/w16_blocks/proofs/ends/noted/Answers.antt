use Rattle.w16_blocks.proofs.Common.{arith, common_steps}
use Rattle.w16_blocks.proofs.ends.noted.Goals as goal

pub returns-then-eq : goal.returns-then-eq
returns-then-eq c = (c.in_ok-id.field-0.now, grind (arith, common_steps), grind (arith, common_steps), grind (arith, common_steps), grind (arith, common_steps))
