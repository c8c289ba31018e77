use Rattle.std.proofs.Common.{arith}
use Rattle.w16_kernel.proofs.kernel.marks.first_left_idle.Goals as goal

pub returns-clause-next : goal.returns-clause-next
returns-clause-next g c = λ handle lt. c.loop-handle.invariant handle (omega (arith, lt, c.min-handle-end.ensures, c.loop-handle-test.false))
