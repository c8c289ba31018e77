use Rattle.w16_arena.proofs
use proofs.Common.{◌≡◌, None, is_some, sym, ap, ◌∙◌, entry_at}
use proofs.Shown.{entry_known, known, nothing, kept_without, steps_without, steps_same}
use proofs.Keeping.{keeps_same}
use Rattle.w16_arena.proofs.Arena.release.Goals as goal

pub invariant_of-self : goal.invariant_of-self
invariant_of-self g c =
    let e = entry_known c.self.invariant c.self.view_is _ (ap is_some (sym c.entry.ensures.value) ∙ sym c.is_some.ensures ∙ c.if-is_some.true) in
    kept_without c.self.invariant c.self.view_is _ e.2 c.remove_block.ensures.value c.remove_block.ensures.ordered c.remove.ensures.value

pub returns-then-is_some-clause-steps : goal.returns-then-is_some-clause-steps
returns-then-is_some-clause-steps g c =
    let e = entry_known c.self.invariant c.self.view_is _ (ap is_some (sym c.entry.ensures.value) ∙ sym c.is_some.ensures ∙ c.if-is_some.true) in
    steps_without c.self.invariant c.self.view_is _ e.2 c.remove_block.ensures.value c.remove_block.ensures.ordered c.remove.ensures.value

pub returns-else-is_some-clause-steps : goal.returns-else-is_some-clause-steps
returns-else-is_some-clause-steps g c =
    steps_same c.self.invariant c.self.view_is _
    (known c.self.invariant c.self.view_is (λ t. entry_at t c.args.id ≡ None) (nothing _ (ap is_some (sym c.entry.ensures.value) ∙ sym c.is_some.ensures ∙ c.if-is_some.false)))

pub returns-else-is_some-clause-bytes : goal.returns-else-is_some-clause-bytes
returns-else-is_some-clause-bytes g c = keeps_same _ _ _ _ c.requires.memory.kept
