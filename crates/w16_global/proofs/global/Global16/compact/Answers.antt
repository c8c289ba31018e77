use Rattle.w16_global.proofs
use proofs.Common as C
use proofs.Sliding as M
use proofs.Common.{◌≡◌, ◌∙◌, ◌||◌, ℕ, ap, arith, subst, sym, told}
use proofs.Owners.{handles_shown, labelled}
use Rattle.w16_global.proofs.global.Global16.compact.Goals as goal

pub follow-requires-clause-handles : goal.follow-requires-clause-handles
follow-requires-clause-handles g c =
    let s = c.compact-compacted.ensures in
    subst (λ xs. C.AreHandles (C.handles_of c.compact-compacted.new.self xs 0)) (sym c.deref.ensures.value) (M.compaction_handles c.self.invariant c.compact-compacted.new.self s.cap _ c.compact-compacted.result.room s.compacted s.discarded s.none)

pub follow-requires-clause-labelled : goal.follow-requires-clause-labelled
follow-requires-clause-labelled g c = subst (λ xs. C.AreLabelled xs c.self.inside.selectors) (sym c.deref.ensures.value) (labelled c.self.invariant)

pub follow-requires-clause-gone : goal.follow-requires-clause-gone
follow-requires-clause-gone g c = let s = c.compact-compacted.ensures in M.compaction_gone c.self.invariant c.compact-compacted.new.self s.cap _ c.compact-compacted.result.room s.compacted s.discarded s.none

pub follow-requires-clause-many : goal.follow-requires-clause-many
follow-requires-clause-many g c =
    let s = c.compact-compacted.ensures in
    (ap C.length c.deref.ensures.value ∙ c.self.invariant.attributes_many ∙ sym s.cap, c.self.invariant.selectors_many ∙ sym s.cap, omega (arith, s.cap, c.self.invariant.some, c.self.invariant.handles.few))

pub invariant_of-self : goal.invariant_of-self
invariant_of-self g c =
    let s = c.compact-compacted.ensures in
    M.compacted_joined c.self.invariant _ s.cap _ c.compact-compacted.result.room s.compacted s.discarded s.none _ _ _ s.still
    (subst (λ xs. (q : ℕ) → C.descriptor_at c.follow.new.selectors q ≡ told c.compact-compacted.new.self.heap xs
    (λ f. C.is_member f c.compact-compacted.new.self.discarded || C.begins_in c.compact-compacted.new.self.heap
    c.compact-compacted.result.slid.from c.compact-compacted.result.slid.to f) c.self.inside.selectors q)
    c.deref.ensures.value c.follow.ensures.told) c.follow.ensures.many

pub returns-clause-step : goal.returns-clause-step
returns-clause-step g c =
    let s = c.compact-compacted.ensures in
    M.compacted_known c.self.inside.objects c.self.inside.attributes.items _ (handles_shown c.self.view_is) c.compact-compacted.new.self s.cap _ _ _ s.compacted s.moved
