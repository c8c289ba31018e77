use Rattle.w16_local.proofs.Common.{◌≡◌, Some, subst, sym, slot_of_selector}
use Rattle.w16_local.proofs.Sweeping.{size_found, size_none, size_past}
use Rattle.w16_local.proofs.sweep.size_in.Goals as goal

pub returns-then-slot : goal.returns-then-slot
returns-then-slot g c = size_past c.args.global.now.handles c.args.slot c.reveal_handles.ensures c.if-slot.true

pub returns-in_default : goal.returns-in_default
returns-in_default g c = size_none c.args.global.now.handles c.args.slot (λ s e. c.in_default.ensures.none s (subst (λ n. slot_of_selector c.args.global.now.handles n ≡ Some s) (sym c.selector_of.ensures) e))

pub returns : goal.returns
returns g c =
    size_found c.args.global.now.handles c.args.slot c.in-Some.segment.slot c.in-Some.segment.size
    (subst (λ n. slot_of_selector c.args.global.now.handles n ≡ Some c.in-Some.segment.slot) c.selector_of.ensures c.in-Some.ensures.found.0) c.in-Some.ensures.found.1
