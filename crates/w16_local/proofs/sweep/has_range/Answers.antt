use Rattle.w16_local.proofs.Common.{None, Some, ap, nat_le, refl, sym, ◌∙◌, option_copied}
use Rattle.w16_local.proofs.Locals.{is_there, none_past}
use Rattle.w16_local.proofs.Sweeping.{range_told, told_none}
use Rattle.w16_local.proofs.sweep.has_range.Goals as goal

pub returns-then-slot-heaps : goal.returns-then-slot-heaps
returns-then-slot-heaps g c = told_none c.args.global.now.handles.heap _ c.args.slot (none_past _ c.args.heaps.now c.args.slot c.if-slot-heaps.true)

pub returns-in_default : goal.returns-in_default
returns-in_default g c =
    told_none c.args.global.now.handles.heap _ c.args.slot
    (is_there _ c.args.heaps.now refl c.args.slot c.if-slot-heaps.false c.index-heaps-slot.result None (sym (ap option_copied c.in_default.is) ∙ c.as_ref.ensures.value ∙ c.index-heaps-slot.is))

pub returns-in_default-size_in : goal.returns-in_default-size_in
returns-in_default-size_in g c =
    range_told c.args.global.now.handles.heap _ c.args.slot c.in-Some.held.now.value
    (is_there _ c.args.heaps.now refl c.args.slot c.if-slot-heaps.false c.index-heaps-slot.result (Some c.in-Some.held.now) (sym (ap option_copied c.in-Some.is) ∙ c.as_ref.ensures.value ∙ c.index-heaps-slot.is)) None (sym c.in_default-size_in.is ∙ c.size_in.ensures)

pub returns : goal.returns
returns g c =
    ap (λ n. nat_le n c.in-Some-size_in.size) (ap (λ s. s.to) c.bounds.ensures ∙ ap (λ t. t.hi) (c.arena.ensures ∙ c.as_ref-2.ensures))
    ∙ range_told c.args.global.now.handles.heap _ c.args.slot c.in-Some.held.now.value
    (is_there _ c.args.heaps.now refl c.args.slot c.if-slot-heaps.false c.index-heaps-slot.result (Some c.in-Some.held.now) (sym (ap option_copied c.in-Some.is) ∙ c.as_ref.ensures.value ∙ c.index-heaps-slot.is)) (Some c.in-Some-size_in.size) (sym c.in-Some-size_in.is ∙ c.size_in.ensures)
