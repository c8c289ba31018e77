use Rattle.w16_arena.proofs.Common.{is_some, sym, ap, ◌∙◌, block_with, entry_at, ArenaState, relisted}
use Rattle.w16_arena.proofs.{Shown.holes_shown, Refusals.modify_none, Refusals.modify_fixed, Modified.kept_modified, Modified.steps_modified}
use Rattle.w16_arena.proofs.Arena.modify.Goals as goal

pub returns-in_default-clause-err : goal.returns-in_default-clause-err
returns-in_default-clause-err g c = modify_none _ c.entry.ensures.sound _ (sym c.entry.ensures.value ∙ c.in_default.is) _

pub returns-then-is_either_fixed-clause-err : goal.returns-then-is_either_fixed-clause-err
returns-then-is_either_fixed-clause-err g c = modify_fixed _ c.entry.ensures.sound _ c.in-Some.entry (sym c.entry.ensures.value ∙ c.in-Some.is) _ (sym c.is_either_fixed.ensures ∙ c.if-is_either_fixed.true)

pub invariant_of-self : goal.invariant_of-self
invariant_of-self g c =
    let has = c.is_some-has_bytes.ensures ∙ ap is_some c.block.ensures.value ∙ ap (λ s. is_some (block_with s.table.blocks c.args.id)) (sym c.self.view_is) in
    kept_modified c.self.invariant c.args.id c.in-Some.entry (ap (λ s. entry_at s.table c.args.id) c.self.view_is ∙ sym c.entry.ensures.value ∙ c.in-Some.is) c.args.kind (sym c.is_either_fixed.ensures ∙ c.if-is_either_fixed.false)
    (c.relist.ensures ∙ (λ i. record c.self.inside.order { ids = relisted (c.is_discardable-was.ensures i) (c.is_discardable-is.ensures i) (has i) c.args.id c.self.inside.order.ids }))

pub returns-clause-ok : goal.returns-clause-ok
returns-clause-ok g c =
    let has = c.is_some-has_bytes.ensures ∙ ap is_some c.block.ensures.value ∙ ap (λ s. is_some (block_with s.table.blocks c.args.id)) (sym c.self.view_is) in
    steps_modified c.self.invariant c.args.id c.in-Some.entry (ap (λ s. entry_at s.table c.args.id) c.self.view_is ∙ sym c.entry.ensures.value ∙ c.in-Some.is) c.args.kind (sym c.is_either_fixed.ensures ∙ c.if-is_either_fixed.false) c.self.view_is
    (c.relist.ensures ∙ (λ i. record c.self.inside.order { ids = relisted (c.is_discardable-was.ensures i) (c.is_discardable-is.ensures i) (has i) c.args.id c.self.inside.order.ids }))

pub returns-clause-holes : goal.returns-clause-holes
returns-clause-holes g c = holes_shown c.self.invariant c.self.view_is
