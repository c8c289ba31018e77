use Rattle.std.proofs.Common.{sym, ◌∙◌}
use Rattle.w16_arena.proofs.Refusals.{unlock_none, unlock_fixed, unlock_ok}
use Rattle.w16_arena.proofs.Arena.unlock.Goals as goal

pub returns-in_default-clause-ok : goal.returns-in_default-clause-ok
returns-in_default-clause-ok g c = unlock_none _ c.entry.ensures.sound _ (sym c.entry.ensures.value ∙ c.in_default.is)

pub returns-then-is_fixed-clause-err : goal.returns-then-is_fixed-clause-err
returns-then-is_fixed-clause-err g c = unlock_fixed _ c.entry.ensures.sound _ c.in-Some.entry (sym c.entry.ensures.value ∙ c.in-Some.is) (sym c.is_fixed.ensures ∙ c.if-is_fixed.true)

pub returns-clause-ok : goal.returns-clause-ok
returns-clause-ok g c = unlock_ok _ c.entry.ensures.sound _ c.in-Some.entry (sym c.entry.ensures.value ∙ c.in-Some.is) c.saturating_sub.result c.saturating_sub.ensures (sym c.is_fixed.ensures ∙ c.if-is_fixed.false) c.set_locks.ensures.steps
