use Rattle.w16_script.proofs.{Common.refl, WholeLemmas.Finishes-none, WholeLemmas.empty-from}
use Rattle.w16_script.proofs.script.finish.Goals as goal

pub returns-then-is_empty-clause-ok : goal.returns-then-is_empty-clause-ok
returns-then-is_empty-clause-ok g c =
    Finishes-none (empty-from _ _ _ c.is_empty.ensures c.if-is_empty.true c.as_slice-line.ensures.value) refl refl
