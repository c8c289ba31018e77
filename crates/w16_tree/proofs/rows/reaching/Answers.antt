use Rattle.std.proofs.Common.{arith}
use Rattle.w16_tree.proofs.Bits.{mask_small, mask_bits}
use Rattle.w16_tree.proofs.rows.reaching.Goals as goal

pub overflow_cast-result : goal.overflow_cast-result
overflow_cast-result c = record { fits = let small = mask_small c.args.n c.args.at c.args.nodes.now c.requires in omega (arith, small) }

pub returns-clause-small : goal.returns-clause-small
returns-clause-small c = mask_small c.args.n c.args.at c.args.nodes.now c.requires

pub returns-clause-bits : goal.returns-clause-bits
returns-clause-bits c = mask_bits _ _ _ c.requires
