use Rattle.std.proofs.Common.{arith}
use Rattle.w16_reloc.proofs.RecordLemmas.{sum_inside, sum_written}
use Rattle.w16_reloc.proofs.image.write_sum.Goals as goal

pub returns-then-at-value_width : goal.returns-then-at-value_width
returns-then-at-value_width c = λ file before ats ready. sum_written file c.args.bytes.now c.write.new.bytes before c.args.fixup.now c.args.far _ ats ready c.moved-far.ensures c.write.ensures

pub returns-else-at-value_width : goal.returns-else-at-value_width
returns-else-at-value_width c = λ file before ats ready.
    let inside = sum_inside file c.args.bytes.now before c.args.fixup.now ats ready in absurd (omega arith)
