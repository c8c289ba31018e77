use Rattle.std.proofs.Common.{arith, ◌∙◌}
use Rattle.w16_parts_tests.proofs.Parts.{part}
use Rattle.w16_parts_tests.proofs.holes.takes_and_puts.Goals as goal

pub take-requires-clause-part : goal.take-requires-clause-part
take-requires-clause-part g c = part _ 2 1 (cc) (omega arith) (omega arith)

pub take-requires-2-clause-part : goal.take-requires-2-clause-part
take-requires-2-clause-part g c = part _ 0 2 (cc) (omega arith) (omega arith)

pub take-requires-3-clause-part : goal.take-requires-3-clause-part
take-requires-3-clause-part g c = part _ 4 1 (cc) (omega arith) (omega arith)

pub put-requires-clause-part : goal.put-requires-clause-part
put-requires-clause-part g c = part _ 0 1 (cc) (omega arith) (omega arith)

pub put-requires-2-clause-part : goal.put-requires-2-clause-part
put-requires-2-clause-part g c = part _ 1 2 (c.put.ensures.range ∙ c.take-3.ensures.range ∙ c.take-2.ensures.range ∙ c.take.ensures.range ∙ c.requires.range) (omega arith) (omega arith)

pub put-requires-3-clause-part : goal.put-requires-3-clause-part
put-requires-3-clause-part g c = part _ 4 1 (c.put-2.ensures.range ∙ c.put.ensures.range ∙ c.take-3.ensures.range ∙ c.take-2.ensures.range ∙ c.take.ensures.range ∙ c.requires.range) (omega arith) (omega arith)
