-- The handles that a reallocation leaves: none changes where it is NULL, and the old one is bad once there is another.
use Rattle.w16_model.proofs as model
use Rattle.w16_model.proofs.Common as C
use model.Common.{◌≡◌, ◌≢◌, ℕ, ◌/◌, inl, inr, Option, Some, None, refl, sym, ap, ◌∙◌, object_at, Call, Calls, ReAllocs, slot_of_handle, Word}
use model.ResizedHandles.{found_some, handle_is, moves, answered}
use model.{Housed.housed_old, CallOutcomes.outcome, Fewest.some_handle, Naming.names_law, Naming.slot_in_handle}
use Rattle.w16_laws.specs.CallLaws.{NullLaw, OldHandleLaw}

pub null_law : NullLaw
null_law old new handle size flags is step = turn (outcome old new (ReAllocs handle size flags) (Word 0) is step)
  where
    other : (command : C.Command C.OfHandles) → ReAllocs handle size flags ≡ Calls command → ⊥
    other command e = cc

    -- an answered one gives a handle
    never : (named slot : ℕ) → slot_of_handle old named ≡ Some slot → ◌≡◌ {A = C.Answer} (Word 0) (Word named) → new.heap ≡ old.heap
    never named slot found says = let none : 0 ≡ named = cc in absurd (found_some old named slot found (sym none))

    turn : C.Outcome old (ReAllocs handle size flags) (Word 0) new → new.heap ≡ old.heap
    turn (C.IsSame s e) = ap (λ h. h.heap) e
    turn (C.IsUnmoved s e) = ap (λ h. h.heap) e
    turn (C.IsModified m) = never m.handle m.slot m.named.found m.answered
    turn (C.IsDiscarded d) = never d.handle d.slot d.named.found d.answered
    turn (C.IsResized r) = let none : 0 ≡ C.handle_of r.object.kind r.first = (let e = r.answered in cc) in absurd (some_handle r.object.kind r.first (sym none))
    turn (C.IsLocked l) = absurd (other _ l.asked)
    turn (C.IsUnlocked u) = absurd (other _ u.asked)
    turn (C.IsFreed f) = absurd (other _ f.asked)
    turn (C.IsNewest n) = absurd (other _ n.asked)
    turn (C.IsOldest n) = absurd (other _ n.asked)
    turn (C.IsEntered e) = absurd (other _ e.asked)
    turn (C.IsAllocated a) = absurd (other _ a.asked)
    turn (C.IsCompacted c) = absurd (other _ c.asked)

module _ (old new : C.Handles) (is : C.AreHandles old) (call : Call) (reply : C.Answer) (r : C.Resized old call reply new) where
  gone : r.slot ≢ r.first → object_at new.heap r.slot ≡ None
  gone d = ap (λ (h : C.Handles). object_at h.heap r.slot) r.rest ∙ housed_old old is r.slot (C.rounded_size r.size) (C.realloc_options r.flags) r.object r.named.there r.first r.gets r.heap r.resized d

pub old_handle_law : OldHandleLaw
old_handle_law old new handle size flags answer is step some d = elim (answered old new _ size flags _ is step some) [
  | inl e ↦ absurd (d e)
  | inr r ↦ is_bad r _ refl
]
  where
    is_bad : C.Resized old (ReAllocs handle size flags) (Word answer) new → (p : Option ℕ) → slot_of_handle new handle ≡ p → slot_of_handle new handle ≡ None
    is_bad r None e = e
    is_bad r (Some q) e = absurd (there _ refl ((names_law new _ q).0.0 e))
      where
        named : r.handle ≡ handle
        named = let e = r.asked in cc

        there : (p : Option C.Object) → object_at new.heap q ≡ p → C.IsSomeAnd p (λ o. handle ≡ C.handle_of o.kind q) → ⊥
        there None at h = h
        there (Some o) at h =
            let same = sym (slot_in_handle _ q) ∙ ap (λ n. n / 8) (sym h ∙ sym named ∙ handle_is old new is _ _ r) ∙ slot_in_handle r.object.kind _ in
            let none : ◌≡◌ {A = Option C.Object} (Some o) None = sym at ∙ ap (object_at new.heap) same ∙ gone old new is _ _ r (moves old new is _ _ r _ _ refl named d) in cc
