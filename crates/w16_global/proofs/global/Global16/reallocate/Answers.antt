use Rattle.w16_global.proofs
use proofs.Common as C
use proofs.Reallocating as M
use proofs.Common.{◌≡◌, ◌∙◌, ◌||◌, ℕ, List, Option, None, Attributes, true, ap, sym, subst, refl, begins_in, descriptor_at, is_member, told}
use proofs.Owners.{handles_shown}
use Rattle.w16_global.proofs.global.Global16.reallocate.Goals as goal

pub house-requires-clause-object : goal.house-requires-clause-object
house-requires-clause-object g c = M.stays_there c.self.invariant (handles_shown c.self.view_is) c.realloc.new.self
    c.in_ok-place.ensures.cap _ c.slots_for-count.result c.args.size c.in_ok-first.first c.args.options
    c.slots_for-count.ensures.value c.in_ok-first.ensures.gets c.in_ok-place.ensures.reallocated
    c.in_ok-place.ensures.discarded

pub house-requires-clause-there : goal.house-requires-clause-there
house-requires-clause-there g c = subst (λ xs. C.is_some (C.get_or xs c.args.slot None) ≡
    true) (sym c.deref_mut.ensures.value) (M.was_attributed c.self.invariant (handles_shown c.self.view_is)
    c.realloc.new.self c.in_ok-place.ensures.cap c.args.slot c.slots_for-count.result c.args.size c.in_ok-first.first
    c.args.options c.slots_for-count.ensures.value c.in_ok-first.ensures.gets c.in_ok-place.ensures.reallocated
    c.in_ok-place.ensures.discarded)

pub house-requires-clause-run : goal.house-requires-clause-run
house-requires-clause-run g c = subst (λ xs. C.HasRun xs c.self.inside.selectors c.args.slot)
    (sym c.deref_mut.ensures.value) (M.had_run c.self.invariant (handles_shown c.self.view_is) c.realloc.new.self
    c.in_ok-place.ensures.cap _ c.slots_for-count.result c.args.size c.in_ok-first.first c.args.options
    c.slots_for-count.ensures.value c.in_ok-first.ensures.gets c.in_ok-place.ensures.reallocated
    c.in_ok-place.ensures.discarded)

pub house-requires-clause-free : goal.house-requires-clause-free
house-requires-clause-free g c = subst (λ xs. C.MayHave xs c.self.inside.selectors c.args.slot c.in_ok-first.first
    c.slots_for-count.result) (sym c.deref_mut.ensures.value)
    (M.may_get c.self.invariant (handles_shown c.self.view_is) c.realloc.new.self c.in_ok-place.ensures.cap _
    _ c.args.size _ c.args.options c.slots_for-count.ensures.value
    c.in_ok-first.ensures.gets c.in_ok-place.ensures.reallocated c.in_ok-place.ensures.discarded)

pub house-requires-clause-nobody : goal.house-requires-clause-nobody
house-requires-clause-nobody g c = M.nobody_then c.self.invariant (handles_shown c.self.view_is) c.realloc.new.self
    c.in_ok-place.ensures.cap _ c.slots_for-count.result c.args.size _ c.args.options
    c.slots_for-count.ensures.value c.in_ok-first.ensures.gets c.in_ok-place.ensures.reallocated
    c.in_ok-place.ensures.discarded

pub follow-requires-clause-handles : goal.follow-requires-clause-handles
follow-requires-clause-handles g c = subst (λ xs. C.AreHandles (C.handles_of c.house.new.objects xs 0))
    (sym c.deref.ensures.value) (M.resized_handles c.self.invariant (handles_shown c.self.view_is) c.realloc.new.self
    c.in_ok-place.ensures.cap c.args.slot c.slots_for-count.result c.args.size c.in_ok-first.first c.args.options
    c.slots_for-count.ensures.value c.in_ok-first.ensures.gets c.in_ok-place.ensures.reallocated
    c.in_ok-place.ensures.discarded
    c.house.new.objects c.house.ensures.heap c.self.inside.attributes refl c.deref_mut.ensures.value c.house.new.attributes c.house.ensures.attributes c.house.ensures.long.0 c.requires.run)

pub follow-requires-clause-labelled : goal.follow-requires-clause-labelled
follow-requires-clause-labelled g c = subst (λ xs. C.AreLabelled xs c.house.new.selectors) (sym c.deref.ensures.value)
    (M.resized_labelled c.self.invariant (handles_shown c.self.view_is) c.realloc.new.self c.in_ok-place.ensures.cap
    c.args.slot c.slots_for-count.result c.args.size c.in_ok-first.first c.args.options c.slots_for-count.ensures.value
    c.in_ok-first.ensures.gets c.in_ok-place.ensures.reallocated c.in_ok-place.ensures.discarded
    c.house.new.objects c.house.ensures.heap c.self.inside.attributes refl c.deref_mut.ensures.value c.house.new.attributes c.house.ensures.attributes c.house.ensures.long.0 c.requires.run _ c.house.ensures.selectors)

pub follow-requires-clause-gone : goal.follow-requires-clause-gone
follow-requires-clause-gone g c = M.resized_gone c.self.invariant (handles_shown c.self.view_is) c.realloc.new.self
    c.in_ok-place.ensures.cap c.args.slot c.slots_for-count.result c.args.size c.in_ok-first.first c.args.options
    c.slots_for-count.ensures.value c.in_ok-first.ensures.gets c.in_ok-place.ensures.reallocated
    c.in_ok-place.ensures.discarded
    c.house.new.objects c.house.ensures.heap c.self.inside.attributes refl c.deref_mut.ensures.value c.house.new.attributes c.house.ensures.attributes c.house.ensures.long.0 c.requires.run

pub place_run-requires-clause-enough : goal.place_run-requires-clause-enough
place_run-requires-clause-enough g c = ap (λ xs. C.slots_in xs c.in_ok-first.first) c.deref-2.ensures.value ∙
    M.resized_slots c.self.invariant (handles_shown c.self.view_is) c.realloc.new.self c.in_ok-place.ensures.cap
    c.args.slot c.slots_for-count.result _ c.in_ok-first.first c.args.options c.slots_for-count.ensures.value
    c.in_ok-first.ensures.gets c.in_ok-place.ensures.reallocated c.in_ok-place.ensures.discarded
    c.house.new.objects c.house.ensures.heap c.self.inside.attributes refl c.deref_mut.ensures.value c.house.new.attributes c.house.ensures.attributes c.house.ensures.long.0 c.requires.run

pub place_run-requires-clause-known : goal.place_run-requires-clause-known
place_run-requires-clause-known g c = λ number below. (M.resized_run c.self.invariant (handles_shown c.self.view_is)
    c.realloc.new.self c.in_ok-place.ensures.cap c.args.slot c.slots_for-count.result _ _
    c.args.options c.slots_for-count.ensures.value c.in_ok-first.ensures.gets c.in_ok-place.ensures.reallocated
    c.in_ok-place.ensures.discarded
    c.house.new.objects c.house.ensures.heap c.self.inside.attributes refl c.deref_mut.ensures.value
    c.house.new.attributes c.house.ensures.attributes c.house.ensures.long.0 c.requires.run
    c.in_ok-place.place.slid.from c.in_ok-place.place.slid.to c.house.new.selectors _
    c.house.ensures.selectors (subst (λ xs. (q : ℕ) → descriptor_at
    c.follow.new.selectors q ≡ told c.house.new.objects.heap xs
    (λ f. is_member f c.house.new.objects.discarded || begins_in c.house.new.objects.heap
    c.in_ok-place.place.slid.from c.in_ok-place.place.slid.to f) c.house.new.selectors q) c.deref.ensures.value
    c.follow.ensures.told) _ below).0

pub place_run-requires-clause-numbered : goal.place_run-requires-clause-numbered
place_run-requires-clause-numbered g c = λ number below.
    (M.resized_run c.self.invariant (handles_shown c.self.view_is) c.realloc.new.self c.in_ok-place.ensures.cap
    c.args.slot c.slots_for-count.result _ _ c.args.options c.slots_for-count.ensures.value
    c.in_ok-first.ensures.gets c.in_ok-place.ensures.reallocated c.in_ok-place.ensures.discarded
    c.house.new.objects c.house.ensures.heap c.self.inside.attributes refl c.deref_mut.ensures.value
    c.house.new.attributes c.house.ensures.attributes c.house.ensures.long.0 c.requires.run
    c.in_ok-place.place.slid.from c.in_ok-place.place.slid.to c.house.new.selectors _
    c.house.ensures.selectors (subst (λ xs. (q : ℕ) → descriptor_at
    c.follow.new.selectors q ≡ told c.house.new.objects.heap xs
    (λ f. is_member f c.house.new.objects.discarded || begins_in c.house.new.objects.heap
    c.in_ok-place.place.slid.from c.in_ok-place.place.slid.to f) c.house.new.selectors q) c.deref.ensures.value
    c.follow.ensures.told) _ below).1

pub invariant_of-self-2 : goal.invariant_of-self-2
invariant_of-self-2 g c = M.resized_joined c.self.invariant (handles_shown c.self.view_is) c.realloc.new.self
    c.in_ok-place.ensures.cap c.args.slot c.slots_for-count.result c.args.size c.in_ok-first.first c.args.options
    c.slots_for-count.ensures.value c.in_ok-first.ensures.gets c.in_ok-place.ensures.reallocated
    c.in_ok-place.ensures.discarded
    _ c.house.ensures.heap c.self.inside.attributes refl c.deref_mut.ensures.value
    c.house.new.attributes c.house.ensures.attributes c.house.ensures.long.0 c.requires.run
    c.slots_for-count.ensures.few c.in_ok-place.place.at c.in_ok-place.place.slid.from c.in_ok-place.place.slid.to
    c.in_ok-place.ensures.placed c.in_ok-place.ensures.still
    c.house.new.selectors c.follow.new.selectors _ c.house.ensures.selectors
    (subst (λ xs. (q : ℕ) → descriptor_at c.follow.new.selectors q ≡ told
    c.house.new.objects.heap xs (λ f. is_member f c.house.new.objects.discarded || begins_in c.house.new.objects.heap
    c.in_ok-place.place.slid.from c.in_ok-place.place.slid.to f) c.house.new.selectors q) c.deref.ensures.value
    c.follow.ensures.told) c.place_run.ensures.placed
    (c.place_run.ensures.many ∙ c.follow.ensures.many ∙ c.house.ensures.long.1)

pub returns-clause-gets : goal.returns-clause-gets
returns-clause-gets g c = subst (λ n. C.IsSomeAnd (C.object_at c.args.self.now.handles.heap c.args.slot) (λ o. C.GetsRun c.args.self.now.handles c.args.slot o c.args.options n c.in_ok-first.first)) c.slots_for-count.ensures.value c.in_ok-first.ensures.gets

pub returns-clause-resized : goal.returns-clause-resized
returns-clause-resized g c = (
  c.realloc.new.self.heap,
  subst (λ w. C.Reallocates w.heap c.args.slot c.args.size c.args.options true c.realloc.new.self.heap) (handles_shown c.self.view_is) c.in_ok-place.ensures.reallocated,
  c.in_ok-place.ensures.moved ∙ ap (λ w. C.moved_bytes w.heap c.realloc.new.self.heap) (handles_shown c.self.view_is),
  M.resized_known c.self.invariant (handles_shown c.self.view_is) c.realloc.new.self c.in_ok-place.ensures.cap
      _ c.slots_for-count.result _ _ c.args.options c.slots_for-count.ensures.value
      c.in_ok-first.ensures.gets c.in_ok-place.ensures.reallocated c.in_ok-place.ensures.discarded
      c.house.new.objects c.house.ensures.heap c.self.inside.attributes refl c.deref_mut.ensures.value c.house.new.attributes c.house.ensures.attributes c.house.ensures.long.0 c.requires.run,
)

pub returns-in_err-place-clause-lacks : goal.returns-in_err-place-clause-lacks
returns-in_err-place-clause-lacks g c = M.if_none c.from_residual-in_err-place.result _
    (M.lacks_place c.self.inside.objects c.self.inside.attributes.items (handles_shown c.self.view_is) _
    c.slots_for-count.result _ c.in_ok-first.first _ c.slots_for-count.ensures.value
    c.in_ok-first.ensures.gets _ c.in_err-place.ensures.reallocated)
