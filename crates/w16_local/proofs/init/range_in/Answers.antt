use Rattle.std.proofs.Common.{false, sym, true, ◌∙◌}
use Rattle.w16_local.proofs.Beginning.{range_told}
use Rattle.w16_local.proofs.init.range_in.Goals as goal

pub returns-then-is_range : goal.returns-then-is_range
returns-then-is_range c = range_told c.args.size c.args.start c.args.end c.rounded_up-from.result c.rounded_down-to.result c.rounded_up-from.ensures c.rounded_down-to.ensures true (sym c.if-is_range.true ∙ c.is_range.ensures)

pub returns-else-is_range : goal.returns-else-is_range
returns-else-is_range c = range_told c.args.size c.args.start c.args.end c.rounded_up-from.result c.rounded_down-to.result c.rounded_up-from.ensures c.rounded_down-to.ensures false (sym c.if-is_range.false ∙ c.is_range.ensures)
