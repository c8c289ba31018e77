use Rattle.std.proofs.Common.{arith}
use Rattle.w16_parts_tests.proofs.holes.holes_lie_in_their_own_bytes.Goals as goal

pub new-requires-2-clause-high : goal.new-requires-2-clause-high
new-requires-2-clause-high g c = (8, omega arith)

pub new-requires-2-clause-wide : goal.new-requires-2-clause-wide
new-requires-2-clause-wide g c = (4, omega arith)
