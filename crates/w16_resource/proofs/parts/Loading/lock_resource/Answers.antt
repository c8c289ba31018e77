-- A resource is locked where it has bytes, or once it is fetched.
use Rattle.w16_resource.proofs
use proofs.Common.{LoadingWorld, ap, bytes_at, is_some, load_in, sym, ℕ, ◌∙◌}
use proofs.Named.{named_slot, is_loaded, lacks, present, absent}
use proofs.Steps.{unnamed, at_once, locked_then, refused, seen}
use Rattle.w16_loading.specs.Modules as loading
use Rattle.w16_resource.proofs.parts.Loading.lock_resource.Goals as goal

pub returns-in_default-clause-step : goal.returns-in_default-clause-step
returns-in_default-clause-step g c = λ is. unnamed _ _ c.args.handle c.in_default.ensures.named

pub returns-then-is_some-clause-step : goal.returns-then-is_some-clause-step
returns-then-is_some-clause-step g c =
    let x : ℕ × loading.Load = (c.in-Some.slot, load_in c.in-Some.field-0-1) in
    let w = seen c.self.view_is in
    let found = rw (← c.self.view_is) at (sym c.in-Some.ensures.named) in
    let some = present w.handles c.args.handle c.in-Some.slot c.selector_of.result (named_slot w c.args.handle x found)
    c.selector_of.ensures c.segment.result c.segment.ensures.found (sym c.is_some.ensures ∙ c.if-is_some.true) in
    rw (← c.self.view_is) (λ is. at_once _ _ c.args.handle x found some.0 some.1 c.global_lock.result c.global_lock.new.self.handles c.global_lock.ensures.step)

pub returns-in-Ok-clause-step : goal.returns-in-Ok-clause-step
returns-in-Ok-clause-step g c =
    let x : ℕ × loading.Load = (c.in-Some.slot, load_in c.in-Some.field-0-1) in
    let w = seen c.self.view_is in
    let found = sym c.in-Some.ensures.named in
    let none = absent w.handles c.args.handle c.in-Some.slot c.selector_of.result (named_slot w c.args.handle x (rw (← c.self.view_is) at found))
    c.selector_of.ensures c.segment.result c.segment.ensures.none (sym c.is_some.ensures ∙ c.if-is_some.false) in
    let lacking = ap (λ (w : LoadingWorld). bytes_at w.handles.heap c.in-Some.slot) (sym c.self.view_is) ∙ none in
    λ is. locked_then _ _ c.args.handle x found lacking (rw (← c.self-2.view_is) at c.fetch_resource.ensures.stays)
    (rw (← c.self-2.view_is) at (c.in-Ok.ensures.step is (lacks c.args.self.now c.args.handle x found is.0 lacking) (ap is_some (is_loaded c.args.self.now c.args.handle x found))))
    c.global_lock-in-Ok.result c.global_lock-in-Ok.new.self.handles c.global_lock-in-Ok.ensures.step

pub returns-in-Err-clause-step : goal.returns-in-Err-clause-step
returns-in-Err-clause-step g c =
    let x : ℕ × loading.Load = (c.in-Some.slot, load_in c.in-Some.field-0-1) in
    let w = seen c.self.view_is in
    let found = sym c.in-Some.ensures.named in
    let none = absent w.handles c.args.handle c.in-Some.slot c.selector_of.result (named_slot w c.args.handle x (rw (← c.self.view_is) at found))
    c.selector_of.ensures c.segment.result c.segment.ensures.none (sym c.is_some.ensures ∙ c.if-is_some.false) in
    let lacking = ap (λ (w : LoadingWorld). bytes_at w.handles.heap c.in-Some.slot) (sym c.self.view_is) ∙ none in
    λ is. refused _ _ c.args.handle x found lacking c.fetch_resource.ensures.stays c.in-Err.fault
    (c.in-Err.ensures.step is (lacks c.args.self.now c.args.handle x found is.0 lacking) (ap is_some (is_loaded c.args.self.now c.args.handle x found))) _ c.refusal.ensures.answer
