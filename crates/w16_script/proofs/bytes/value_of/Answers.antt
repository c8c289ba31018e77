use Rattle.std.proofs.Common.{arith}
use Rattle.w16_script.proofs.DigitLemmas.{value-at}
use Rattle.w16_script.proofs.bytes.value_of.Goals as goal

pub returns : goal.returns
returns c = rw c.entry.ensures (value-at c.args.byte (omega arith))
