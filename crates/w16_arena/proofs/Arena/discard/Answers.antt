use Rattle.w16_arena.proofs
use proofs.Common.{Entry, sym, ◌∙◌, ◌≡◌, IsSomeAnd, Option, subst, arith, lt-ltb, le-ltb}
use proofs.Refusals.{discard_none, discard_locked, discard_other, discard_ok}
use proofs.Keeping.{keeps_same}
use Rattle.w16_arena.proofs.Arena.discard.Goals as goal

pub returns-in_default-clause-err : goal.returns-in_default-clause-err
returns-in_default-clause-err g c = discard_none _ c.entry.ensures.sound _ (sym c.entry.ensures.value ∙ c.in_default.is)

pub returns-then-entry-gt0-clause-err : goal.returns-then-entry-gt0-clause-err
returns-then-entry-gt0-clause-err g c = discard_locked _ c.entry.ensures.sound _ c.in-Some.entry (sym c.entry.ensures.value ∙ c.in-Some.is) (lt-ltb 0 _ c.if-entry-gt0.true)

pub returns-then-not-is_discardable-clause-err : goal.returns-then-not-is_discardable-clause-err
returns-then-not-is_discardable-clause-err g c = discard_other _ c.entry.ensures.sound _ c.in-Some.entry (sym c.entry.ensures.value ∙ c.in-Some.is) (le-ltb 0 _ c.if-entry-gt0.false) (sym c.is_discardable.ensures ∙ c.if-not-is_discardable.true)

pub returns-clause-ok : goal.returns-clause-ok
returns-clause-ok g c = discard_ok _ c.entry.ensures.sound _ c.in-Some.entry (sym c.entry.ensures.value ∙ c.in-Some.is) (le-ltb 0 _ c.if-entry-gt0.false) (sym c.is_discardable.ensures ∙ c.if-not-is_discardable.false) c.give_up.ensures.steps

pub returns-in_default-clause-bytes : goal.returns-in_default-clause-bytes
returns-in_default-clause-bytes g c = keeps_same _ _ _ _ c.requires.memory.kept

pub returns-then-entry-gt0-clause-bytes : goal.returns-then-entry-gt0-clause-bytes
returns-then-entry-gt0-clause-bytes g c = keeps_same _ _ _ _ c.requires.memory.kept

pub returns-then-not-is_discardable-clause-bytes : goal.returns-then-not-is_discardable-clause-bytes
returns-then-not-is_discardable-clause-bytes g c = keeps_same _ _ _ _ c.requires.memory.kept

pub returns-then-entry-gt0-clause-ok : goal.returns-then-entry-gt0-clause-ok
returns-then-entry-gt0-clause-ok g c = tt

pub returns-then-not-is_discardable-clause-ok : goal.returns-then-not-is_discardable-clause-ok
returns-then-not-is_discardable-clause-ok g c = tt

pub give_up-requires-clause-unlocked : goal.give_up-requires-clause-unlocked
give_up-requires-clause-unlocked g c = subst (λ o. IsSomeAnd o (λ e. e.locks ≡ 0)) (sym (sym c.entry.ensures.value ∙ c.in-Some.is)) (omega arith)
