use Rattle.std.proofs.Common.{◌∙◌, arith}
use Rattle.w16_parts_tests.proofs.Parts.{part}
use Rattle.w16_parts_tests.proofs.holes.slides.Goals as goal

pub take-requires-clause-part : goal.take-requires-clause-part
take-requires-clause-part g c = part _ 2 1 c.requires.range (omega arith) (omega arith)

pub slide_down-requires-clause-old : goal.slide_down-requires-clause-old
slide_down-requires-clause-old g c = part _ 2 1 (c.take.ensures.range ∙ c.requires.range) (omega arith) (omega arith)
