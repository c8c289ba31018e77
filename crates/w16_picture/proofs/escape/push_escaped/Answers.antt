use Rattle.std.proofs.Common.{arith}
use Rattle.w16_picture.proofs.Plain.{IsText-escaped}
use Rattle.w16_picture.proofs.escape.push_escaped.Goals as goal

pub returns-in_err-push_byte-clause-plain : goal.returns-in_err-push_byte-clause-plain
returns-in_err-push_byte-clause-plain c = IsText-escaped c.args.bytes.now (λ k less. omega (arith, c.type_inv.bytes k))

pub returns-clause-plain : goal.returns-clause-plain
returns-clause-plain c = IsText-escaped c.args.bytes.now (λ k less. omega (arith, c.type_inv.bytes k))
