use Rattle.w16_local.proofs.Common.{None, Some, sym, ◌∙◌, arith}
use Rattle.w16_local.proofs.Looks.{block_small, name_none, name_fixed, name_loose}
use Rattle.w16_local.proofs.look.name_at.Goals as goal

pub returns-in_err-entry : goal.returns-in_err-entry
returns-in_err-entry g c bytes over = name_none over c.args.id (sym c.in_err-entry.ensures.value) ∙ sym c.from_residual.ensures

pub returns-in_err-block : goal.returns-in_err-block
returns-in_err-block g c bytes over =
    name_fixed over c.args.id c.in_ok-entry.entry (sym c.in_ok-entry.ensures.value) (sym c.is_fixed.ensures ∙ c.if-is_fixed.true) None (sym c.in_err-block.ensures.value) ∙ sym c.from_residual-in_err-block.ensures

pub overflow_cast-result : goal.overflow_cast-result
overflow_cast-result g c = let small = (block_small c.args.heap.now.table c.requires c.args.id c.in_ok-block.block (sym c.in_ok-block.ensures.value)).0 in omega (arith, small)

pub returns-in_ok-block : goal.returns-in_ok-block
returns-in_ok-block g c bytes over = name_fixed over c.args.id c.in_ok-entry.entry (sym c.in_ok-entry.ensures.value) (sym c.is_fixed.ensures ∙ c.if-is_fixed.true) (Some c.in_ok-block.block) (sym c.in_ok-block.ensures.value)

pub returns-else-is_fixed : goal.returns-else-is_fixed
returns-else-is_fixed g c bytes over = name_loose over c.args.id c.in_ok-entry.entry (sym c.in_ok-entry.ensures.value) (sym c.is_fixed.ensures ∙ c.if-is_fixed.false)
