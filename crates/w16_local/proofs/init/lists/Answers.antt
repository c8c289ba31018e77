use Rattle.std.proofs.Common.{arith}
use Rattle.w16_local.proofs.init.lists.Goals as goal

pub returns-then-live-i : goal.returns-then-live-i
returns-then-live-i c t = let lt = c.slots-test.true in let same = c.if-live-i.true in (c.slots.i, omega (arith, lt), omega (arith, same))
