use Rattle.w16_script.proofs.Common.{arith, lower_digits, encode_step, encode_done}
use Rattle.w16_script.proofs.bytes.encode.Goals as goal

pub bytes-preserved : goal.bytes-preserved
bytes-preserved c = encode_step lower_digits c.args.bytes.now c.bytes.text c.bytes.at _ _ (omega arith) (omega arith) c.digit.ensures c.digit-in-bytes.ensures c.bytes.invariant

pub returns : goal.returns
returns c = encode_done _ _ _ c.bytes.at (omega arith) (omega arith) c.bytes.invariant
