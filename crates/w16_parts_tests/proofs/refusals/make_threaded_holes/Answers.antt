use Rattle.std.proofs.Common.{arith}
use Rattle.w16_parts_tests.proofs.refusals.make_threaded_holes.Goals as goal

pub new-requires-2-clause-high : goal.new-requires-2-clause-high
new-requires-2-clause-high c = (8, omega arith)

pub new-requires-2-clause-wide : goal.new-requires-2-clause-wide
new-requires-2-clause-wide c = (4, omega arith)
