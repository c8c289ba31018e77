use Rattle.std.proofs.Common.{sym, ap, ◌∙◌, is_some}
use Rattle.w16_arena.proofs.Shown.{nothing}
use Rattle.w16_arena.proofs.Refusals.{order_absent, order_none, order_ok, order_other}
use Rattle.w16_arena.proofs.Arena.check_in_order.Goals as goal

pub returns-then-is_none-clause-err : goal.returns-then-is_none-clause-err
returns-then-is_none-clause-err g c = order_absent _ c.block.ensures.sound _ (sym c.block.ensures.value ∙ nothing _ c.if-is_none.ensures)

pub returns-in_default-clause-err : goal.returns-in_default-clause-err
returns-in_default-clause-err g c = order_none _ c.entry.ensures.sound _ (sym c.entry.ensures.value ∙ c.in_default.is)

pub returns-then-is_discardable-clause-ok : goal.returns-then-is_discardable-clause-ok
returns-then-is_discardable-clause-ok g c = order_ok _ c.entry.ensures.sound _ c.in-Some.entry (sym c.entry.ensures.value ∙ c.in-Some.is) (ap is_some (sym c.block.ensures.value) ∙ c.if-is_none.ensures) (sym c.is_discardable.ensures ∙ c.if-is_discardable.true)

pub returns-else-is_discardable-clause-err : goal.returns-else-is_discardable-clause-err
returns-else-is_discardable-clause-err g c = order_other _ c.entry.ensures.sound _ c.in-Some.entry (sym c.entry.ensures.value ∙ c.in-Some.is) (ap is_some (sym c.block.ensures.value) ∙ c.if-is_none.ensures) (sym c.is_discardable.ensures ∙ c.if-is_discardable.false)

pub returns-else-is_discardable-clause-ok : goal.returns-else-is_discardable-clause-ok
returns-else-is_discardable-clause-ok g c = tt

pub returns-else-is_discardable-clause-listed : goal.returns-else-is_discardable-clause-listed
returns-else-is_discardable-clause-listed g c = tt
