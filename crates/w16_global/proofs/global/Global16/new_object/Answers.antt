use Rattle.w16_global.proofs
use proofs.Common.{refl, sym, ap, ◌∙◌, subst, arith, AreHandles, Attributes, None, GMEM_DDESHARE, has_flag, Handles, HasNoRun, IsFreeRun, handles_of, rounded_size, slots_for}
use proofs.Allocation.{absent_answered, bytes_answered, bytes_refused, refuses_slots}
use proofs.Owners.{handles_shown}
use Rattle.w16_global.proofs.global.Global16.new_object.Goals as goal

pub returns-then-size-eq0-clause-step : goal.returns-then-size-eq0-clause-step
returns-then-size-eq0-clause-step g c =
    absent_answered _ c.free_run.new.self.handles (handles_shown c.free_run.ensures.same ∙ ap (λ (x : Handles). record x { moved = 0 }) (handles_shown c.self.view_is)) _ _ _ _
    (subst (λ x. IsFreeRun x c.in-Some.slot (slots_for (rounded_size c.args.size)))
    (sym (handles_shown c.free_run.ensures.same)) (subst
    (IsFreeRun (handles_of c.self.inside.objects c.self.inside.attributes.items 0) _)
    (c.slots_for-slots.ensures.value ∙ ap slots_for c.rounded-rounded_size.ensures) c.in-Some.ensures.found))
    c.kind_asked-kind.result c.kind_asked-kind.ensures _
    (c.attributes_asked-attributes.ensures ∙ ap (λ n. let a : Attributes = record
    { shared = has_flag c.args.flags.0 GMEM_DDESHARE; owned = None; slots = n } in a)
    (c.slots_for-slots.ensures.value ∙ ap slots_for c.rounded-rounded_size.ensures)) _
    c.handle_of.ensures c.if-size-eq0.true
    (sym (c.if-not-intersects.ensures tt)) c.enter.ensures.entered c.enter.ensures.rest

pub returns-then-allocate-clause-step : goal.returns-then-allocate-clause-step
returns-then-allocate-clause-step g c =
    let s = c.if-allocate.ensures in
    bytes_answered _ c.free_run.new.self.handles (handles_shown c.free_run.ensures.same ∙ ap (λ (x : Handles). record x { moved = 0 }) (handles_shown c.self.view_is)) _ _ _ _
    (subst (λ x. IsFreeRun x c.in-Some.slot (slots_for (rounded_size c.args.size)))
    (sym (handles_shown c.free_run.ensures.same)) (subst
    (IsFreeRun (handles_of c.self.inside.objects c.self.inside.attributes.items 0) _)
    (c.slots_for-slots.ensures.value ∙ ap slots_for c.rounded-rounded_size.ensures) c.in-Some.ensures.found))
    c.kind_asked-kind.result c.kind_asked-kind.ensures _
    (c.attributes_asked-attributes.ensures ∙ ap (λ n. let a : Attributes = record
    { shared = has_flag c.args.flags.0 GMEM_DDESHARE; owned = None; slots = n } in a)
    (c.slots_for-slots.ensures.value ∙ ap slots_for c.rounded-rounded_size.ensures)) _
    c.handle_of-then-allocate.ensures
    c.rounded-rounded_size.result c.rounded-rounded_size.ensures c.alloc_options.result c.alloc_options.ensures c.if-size-eq0.false
    (omega (arith, c.if-size-gt-LARGEST_SIZE.false)) s.allocated s.rest

pub returns-else-allocate-clause-step : goal.returns-else-allocate-clause-step
returns-else-allocate-clause-step g c =
    let s = c.if-allocate.ensures in
    bytes_refused _ c.free_run.new.self.handles (handles_shown c.free_run.ensures.same ∙ ap (λ (x : Handles). record x { moved = 0 }) (handles_shown c.self.view_is)) _ _ _ _
    (subst (λ x. IsFreeRun x c.in-Some.slot (slots_for (rounded_size c.args.size)))
    (sym (handles_shown c.free_run.ensures.same)) (subst
    (IsFreeRun (handles_of c.self.inside.objects c.self.inside.attributes.items 0) _)
    (c.slots_for-slots.ensures.value ∙ ap slots_for c.rounded-rounded_size.ensures) c.in-Some.ensures.found))
    c.kind_asked-kind.result c.kind_asked-kind.ensures _
    (c.attributes_asked-attributes.ensures ∙ ap (λ n. let a : Attributes = record
    { shared = has_flag c.args.flags.0 GMEM_DDESHARE; owned = None; slots = n } in a)
    (c.slots_for-slots.ensures.value ∙ ap slots_for c.rounded-rounded_size.ensures)) _ refl
    c.rounded-rounded_size.result c.rounded-rounded_size.ensures c.alloc_options.result c.alloc_options.ensures c.if-size-eq0.false
    (subst AreHandles (sym (handles_shown c.free_run.ensures.same)) c.self.invariant.handles) s.allocated s.rest

pub returns-in_default-clause-step : goal.returns-in_default-clause-step
returns-in_default-clause-step g c =
    refuses_slots _ _ (ap (λ (x : Handles). record x { moved = 0 }) (handles_shown c.self.view_is)) _ _ _
    (subst (HasNoRun (handles_of c.self.inside.objects c.self.inside.attributes.items 0)) (c.slots_for-slots.ensures.value ∙ ap slots_for c.rounded-rounded_size.ensures) c.in_default.ensures.none) (handles_shown c.free_run.ensures.same)
