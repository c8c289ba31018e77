use Rattle.w16_arena.proofs.{Common.sym, Common.◌∙◌, Common.lt-ltb, Common.le-ltb, Refusals.free_none, Refusals.free_locked, Refusals.free_ok, Keeping.keeps_same}
use Rattle.w16_arena.proofs.Arena.free.Goals as goal

pub returns-in_default-clause-ok : goal.returns-in_default-clause-ok
returns-in_default-clause-ok g c = free_none _ c.entry.ensures.sound _ (sym c.entry.ensures.value ∙ c.in_default.is)

pub returns-then-entry-gt0-clause-err : goal.returns-then-entry-gt0-clause-err
returns-then-entry-gt0-clause-err g c = free_locked _ c.entry.ensures.sound _ c.in-Some.entry (sym c.entry.ensures.value ∙ c.in-Some.is) (lt-ltb 0 _ c.if-entry-gt0.true)

pub returns-clause-ok : goal.returns-clause-ok
returns-clause-ok g c = free_ok _ c.entry.ensures.sound _ c.in-Some.entry (sym c.entry.ensures.value ∙ c.in-Some.is) (le-ltb 0 _ c.if-entry-gt0.false) c.release.ensures.steps

pub returns-in_default-clause-bytes : goal.returns-in_default-clause-bytes
returns-in_default-clause-bytes g c = keeps_same _ _ _ _ c.requires.memory.kept

pub returns-then-entry-gt0-clause-bytes : goal.returns-then-entry-gt0-clause-bytes
returns-then-entry-gt0-clause-bytes g c = keeps_same _ _ _ _ c.requires.memory.kept

pub returns-then-entry-gt0-clause-ok : goal.returns-then-entry-gt0-clause-ok
returns-then-entry-gt0-clause-ok g c = tt
