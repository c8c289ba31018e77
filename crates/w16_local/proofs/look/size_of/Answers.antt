use Rattle.std.proofs.Common.{None, Some, sym, ◌∙◌, arith}
use Rattle.w16_local.proofs.Looks.{block_small, size_in}
use Rattle.w16_local.proofs.look.size_of.Goals as goal

pub returns-in_default : goal.returns-in_default
returns-in_default g c bytes over = size_in over c.args.id None (sym c.block.ensures.value ∙ c.in_default.is)

pub overflow_cast-result : goal.overflow_cast-result
overflow_cast-result g c = let small = (block_small c.args.heap.now.table c.requires c.args.id c.in-Some.block (sym c.block.ensures.value ∙ c.in-Some.is)).1 in omega (arith, small)

pub returns : goal.returns
returns g c bytes over = size_in over c.args.id (Some c.in-Some.block) (sym c.block.ensures.value ∙ c.in-Some.is)
