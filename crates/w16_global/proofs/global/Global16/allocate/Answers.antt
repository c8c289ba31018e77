use Rattle.w16_global.proofs
use proofs.Sliding as M
use proofs.Common.{◌≡◌, ◌+◌, ◌<◌, ◌∙◌, ◌||◌, ℕ, Some, ap, arith, length, length-set, subst, sym, AreHandles, AreLabelled, begins_in, descriptor_at, handles_of, is_member, rules, slots_in, some_slots, told}
use proofs.{Joining.given_handles, Joining.within, Joined.unused_in, Owners.free_selector, Owners.handles_shown}
use Rattle.w16_global.proofs.global.Global16.allocate.Goals as goal

pub alloc-requires-clause-free : goal.alloc-requires-clause-free
alloc-requires-clause-free g c = unused_in c.self.inside.objects c.self.inside.attributes.items c.self.inside.selectors c.self.invariant (handles_shown c.self.view_is) _ c.args.attributes.slots (subst (λ n. 0 < n) (sym c.requires.enough) (some_slots c.args.size)) c.requires.free

pub take_run-requires-clause-free : goal.take_run-requires-clause-free
take_run-requires-clause-free g c = λ number below. free_selector c.self.invariant (handles_shown c.self.view_is) _ (c.requires.free _ below)

pub take_run-requires-clause-few : goal.take_run-requires-clause-few
take_run-requires-clause-few g c = (c.requires.sized.0, omega (arith, c.self.invariant.selectors_many, c.self.invariant.some, c.self.invariant.handles.few))

pub follow-requires-clause-handles : goal.follow-requires-clause-handles
follow-requires-clause-handles g c = subst (λ xs. AreHandles (handles_of c.alloc.new.self xs 0))
    (sym c.deref.ensures.value) (M.allocated_handles c.self.invariant c.alloc.new.self c.in-Some.ensures.cap c.args.slot
    c.args.attributes (handles_shown c.self.view_is) c.requires.free c.requires.run c.requires.sized c.args.size
    c.args.kind c.args.options c.in-Some.ensures.allocated c.in-Some.ensures.discarded c.requires.enough)

pub follow-requires-clause-labelled : goal.follow-requires-clause-labelled
follow-requires-clause-labelled g c = subst (λ xs. AreLabelled xs c.take_run.new.selectors) (sym c.deref.ensures.value)
    (M.allocated_labelled c.self.invariant c.alloc.new.self c.in-Some.ensures.cap c.args.slot c.args.attributes
    (handles_shown c.self.view_is) c.requires.free c.requires.run c.requires.sized c.args.size c.args.kind
    c.args.options c.in-Some.ensures.allocated c.in-Some.ensures.discarded c.requires.enough c.kind_for.result
    c.kind_for.ensures _ c.take_run.ensures.taken)

pub follow-requires-clause-gone : goal.follow-requires-clause-gone
follow-requires-clause-gone g c = M.allocated_gone c.self.invariant c.alloc.new.self c.in-Some.ensures.cap c.args.slot
    c.args.attributes (handles_shown c.self.view_is) c.requires.free c.requires.run c.requires.sized c.args.size
    c.args.kind c.args.options c.in-Some.ensures.allocated c.in-Some.ensures.discarded c.requires.enough

pub follow-requires-clause-many : goal.follow-requires-clause-many
follow-requires-clause-many g c =
    let s = c.in-Some.ensures in (
      ap length c.deref.ensures.value ∙ length-set _ c.args.slot (Some _) ∙ c.self.invariant.attributes_many ∙ sym s.cap,
      c.take_run.ensures.many ∙ c.self.invariant.selectors_many ∙ sym s.cap,
      omega (arith, s.cap, c.self.invariant.some, c.self.invariant.handles.few),
    )

pub place_run-requires-clause-known : goal.place_run-requires-clause-known
place_run-requires-clause-known g c = λ number below. (M.allocated_run c.self.invariant c.alloc.new.self
    c.in-Some.ensures.cap _ c.args.attributes (handles_shown c.self.view_is) c.requires.free c.requires.run
    c.requires.sized _ c.args.kind c.args.options c.in-Some.ensures.allocated c.in-Some.ensures.discarded
    c.requires.enough c.kind_for.result c.kind_for.ensures c.in-Some.placed.slid.from c.in-Some.placed.slid.to
    c.take_run.new.selectors _ c.take_run.ensures.taken
    (subst (λ xs. (q : ℕ) → descriptor_at c.follow.new.selectors q ≡ told c.alloc.new.self.heap xs
    (λ f. is_member f c.alloc.new.self.discarded || begins_in c.alloc.new.self.heap c.in-Some.placed.slid.from
    c.in-Some.placed.slid.to f) c.take_run.new.selectors q) c.deref.ensures.value c.follow.ensures.told) _
    below).0

pub place_run-requires-clause-numbered : goal.place_run-requires-clause-numbered
place_run-requires-clause-numbered g c = λ number below.
    (M.allocated_run c.self.invariant c.alloc.new.self c.in-Some.ensures.cap _ c.args.attributes
    (handles_shown c.self.view_is) c.requires.free c.requires.run c.requires.sized _ c.args.kind
    c.args.options c.in-Some.ensures.allocated c.in-Some.ensures.discarded c.requires.enough c.kind_for.result
    c.kind_for.ensures c.in-Some.placed.slid.from c.in-Some.placed.slid.to c.take_run.new.selectors
    _ c.take_run.ensures.taken
    (subst (λ xs. (q : ℕ) → descriptor_at c.follow.new.selectors q ≡ told c.alloc.new.self.heap xs
    (λ f. is_member f c.alloc.new.self.discarded || begins_in c.alloc.new.self.heap c.in-Some.placed.slid.from
    c.in-Some.placed.slid.to f) c.take_run.new.selectors q) c.deref.ensures.value c.follow.ensures.told) _
    below).1

pub place_run-requires-clause-enough : goal.place_run-requires-clause-enough
place_run-requires-clause-enough g c = ap (λ xs. slots_in xs c.args.slot) c.deref-2.ensures.value ∙ M.allocated_slots
    c.self.invariant c.alloc.new.self c.in-Some.ensures.cap c.args.slot c.args.attributes
    (handles_shown c.self.view_is) c.requires.free c.requires.run c.requires.sized _ c.args.kind
    c.args.options c.in-Some.ensures.allocated c.in-Some.ensures.discarded c.requires.enough

pub place_run-requires-clause-few : goal.place_run-requires-clause-few
place_run-requires-clause-few g c = omega (arith, c.follow.ensures.many, c.take_run.ensures.many, c.self.invariant.selectors_many, c.self.invariant.some, c.self.invariant.handles.few)

pub invariant_of-self-2 : goal.invariant_of-self-2
invariant_of-self-2 g c = M.allocated_joined c.self.invariant _ c.in-Some.ensures.cap _
    _ (handles_shown c.self.view_is) c.requires.free c.requires.run c.requires.sized c.args.size
    c.args.kind c.args.options c.in-Some.ensures.allocated c.in-Some.ensures.discarded c.requires.enough
    c.kind_for.result c.kind_for.ensures c.in-Some.placed.at c.in-Some.placed.slid.from c.in-Some.placed.slid.to
    c.in-Some.ensures.placed c.in-Some.ensures.still c.take_run.new.selectors c.follow.new.selectors
    _
    c.take_run.ensures.taken (subst (λ xs. (q : ℕ) → descriptor_at c.follow.new.selectors q ≡ told
    c.alloc.new.self.heap xs (λ f. is_member f c.alloc.new.self.discarded || begins_in c.alloc.new.self.heap
    c.in-Some.placed.slid.from c.in-Some.placed.slid.to f) c.take_run.new.selectors q) c.deref.ensures.value
    c.follow.ensures.told)
    c.place_run.ensures.placed (c.place_run.ensures.many ∙ c.follow.ensures.many ∙ c.take_run.ensures.many)

pub returns-clause-rest : goal.returns-clause-rest
returns-clause-rest g c =
    M.given_moved c.self.inside.objects _ _ (handles_shown c.self.view_is) c.alloc.new.self _ _ _ c.in-Some.ensures.moved
    (given_handles c.self.invariant c.alloc.new.self c.in-Some.ensures.cap _ _ (handles_shown c.self.view_is) c.requires.free (subst (λ n. 0 < n) (sym c.requires.enough) (some_slots c.args.size)) _)

pub index_mut-requires : goal.index_mut-requires
index_mut-requires g c =
    let lt = within c.self.invariant c.alloc.new.self c.in-Some.ensures.cap c.args.slot c.args.attributes (handles_shown c.self.view_is) c.requires.free (subst (λ n. 0 < n) (sym c.requires.enough) (some_slots c.args.size)) in
    search (rules, lt)
