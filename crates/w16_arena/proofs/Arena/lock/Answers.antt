use Rattle.std.proofs.Common.{◌+◌, refl, sym, ap, ◌∙◌, is_some, ne_eqb, eq-eqb}
use Rattle.w16_arena.proofs.Shown.{nothing}
use Rattle.w16_arena.proofs.Refusals.{lock_absent, lock_none, lock_fixed, lock_full, lock_ok}
use Rattle.w16_arena.proofs.Arena.lock.Goals as goal

pub returns-then-is_none-clause-err : goal.returns-then-is_none-clause-err
returns-then-is_none-clause-err g c = lock_absent _ c.block.ensures.sound _ (sym c.block.ensures.value ∙ nothing _ c.if-is_none.ensures)

pub returns-in_default-clause-err : goal.returns-in_default-clause-err
returns-in_default-clause-err g c = lock_none _ c.entry.ensures.sound _ (sym c.entry.ensures.value ∙ c.in_default.is)

pub returns-then-is_fixed-clause-err : goal.returns-then-is_fixed-clause-err
returns-then-is_fixed-clause-err g c = lock_fixed _ c.entry.ensures.sound _ c.in-Some.entry (sym c.entry.ensures.value ∙ c.in-Some.is) (ap is_some (sym c.block.ensures.value) ∙ c.if-is_none.ensures) (sym c.is_fixed.ensures ∙ c.if-is_fixed.true)

pub returns-then-entry-clause-err : goal.returns-then-entry-clause-err
returns-then-entry-clause-err g c = lock_full _ c.entry.ensures.sound _ c.in-Some.entry
    (sym c.entry.ensures.value ∙ c.in-Some.is) (ap is_some (sym c.block.ensures.value) ∙ c.if-is_none.ensures)
    (sym c.is_fixed.ensures ∙ c.if-is_fixed.false) (eq-eqb _ 255 c.if-entry.true)

pub returns-clause-ok : goal.returns-clause-ok
returns-clause-ok g c = lock_ok _ c.entry.ensures.sound _ c.in-Some.entry
    (sym c.entry.ensures.value ∙ c.in-Some.is) (ap is_some (sym c.block.ensures.value) ∙ c.if-is_none.ensures)
    _ refl (sym c.is_fixed.ensures ∙ c.if-is_fixed.false)
    (ne_eqb _ 255 c.if-entry.false) c.set_locks.ensures.steps c.touch.ensures.steps

pub returns-then-is_none-clause-ok : goal.returns-then-is_none-clause-ok
returns-then-is_none-clause-ok g c = tt

pub returns-then-is_fixed-clause-ok : goal.returns-then-is_fixed-clause-ok
returns-then-is_fixed-clause-ok g c = tt

pub returns-then-entry-clause-ok : goal.returns-then-entry-clause-ok
returns-then-entry-clause-ok g c = tt
