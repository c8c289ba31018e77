use Rattle.w16_local.proofs.Common.{None, ap, arith, false, get_or, subst, true, ◌≡◌, ◌-◌, ◌∙◌, get_or_default_zero}
use Rattle.w16_local.proofs.Sweeping.{looked, swept_gone, swept_kept}
use Rattle.w16_local.proofs.sweep.look_at.Goals as goal

pub returns-then-has_range : goal.returns-then-has_range
returns-then-has_range g c old is =
    let at = c.index-slot.ensures ∙ get_or_default_zero c.args.live.now.items c.args.i c.index-slot.result.now c.requires in
    swept_kept c.args.global.now.handles.heap _ old c.args.i c.args.heaps.now.items c.args.live.now.items is
    (looked c.args.global.now.handles.heap _ c.args.heaps.now.items c.deref.result.now c.deref.ensures.value c.args.live.now.items c.args.i c.index-slot.result.now at c.has_range.result true c.has_range.ensures c.if-has_range.true)

pub returns : goal.returns
returns g c old is =
    let at = c.index-slot.ensures ∙ get_or_default_zero c.args.live.now.items c.args.i c.index-slot.result.now c.requires in
    let many = c.args.live.now.ok.0 in
    let left = c.swap_remove.new.self.ok.0 in
    let less = c.swap_remove.ensures.len in
    swept_gone c.args.global.now.handles.heap _ old c.args.i c.args.heaps.now.items c.args.live.now.items is
    (looked c.args.global.now.handles.heap _ c.args.heaps.now.items c.deref.result.now c.deref.ensures.value c.args.live.now.items c.args.i c.index-slot.result.now at c.has_range.result false c.has_range.ensures c.if-has_range.false)
    c.take_away.new.heaps.items (subst (λ s. get_or c.take_away.new.heaps.items s None ≡ None) at c.take_away.ensures.taken) (λ q d. c.take_away.ensures.rest q (λ e. d (e ∙ at)))
    c.swap_remove.new.self.items (omega (arith, many, left, less)) (λ lt. c.swap_remove.ensures.by_index.0 0 (omega (arith, lt, many)) ∙ ap (λ n. get_or c.args.live.now.items (n - 1) 0) many) (λ k d lt. c.swap_remove.ensures.by_index.1 k 0 d (omega (arith, lt, many)))
