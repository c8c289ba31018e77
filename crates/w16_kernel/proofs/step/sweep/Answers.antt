use Rattle.w16_kernel.proofs.Common.{◌≤◌, ◌∙◌, OthersStay, ap, has_range, refl, subst, surviving_heaps}
use Rattle.w16_kernel.proofs.Spared.{swept_slot}
use Rattle.w16_kernel.proofs.step.sweep.Goals as goal

pub returns-then-before-discardable_beside : goal.returns-then-before-discardable_beside
returns-then-before-discardable_beside g c =
    let w = c.args.parts.now in
    let many = subst (λ n. c.args.before ≤ n) c.discardable_beside.ensures c.if-before-discardable_beside.true in
    let heaps = swept_slot w.loading.handles.heap w.heaps c.in-Some.slot (subst (λ slot. OthersStay slot c.args.before w) c.in-Some.is c.requires many)
    (has_range w.loading.handles.heap w.heaps c.in-Some.slot) refl
    ∙ ap (λ b. surviving_heaps b w.loading.handles.heap w.heaps) c.if-not-may_take_bytes.ensures in
    c.sweep_slot.ensures ∙ ap (λ h. record w { heaps = h }) heaps
