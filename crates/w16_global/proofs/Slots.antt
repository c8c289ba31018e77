-- Which slots are free for an object, and the run that it gets.
use Rattle.w16_global.proofs
use proofs.Common as C
use Rattle.std.proofs.{Common.IsTrue, Common.◌↔◌, lemmas.Option.IfSome_then}
use proofs.Common.{◌≡◌, ℕ, ◌+◌, ◌-◌, ◌<◌, ◌≤◌, Bool, true, inr, IfSome, IfNone, IsSomeAnd, List, Option, Some, None, sym, ◌∙◌, subst, arith, Object, object_at, IsFreeRun}
use proofs.Owners.{free_slot, free_selector, free_run, free_selectors}
use Rattle.w16_model.specs.{Handles.HasNoRun, Resizes.CanExtend, Resizes.GetsRun, Resizes.LacksRun, Resizes.may_leave}
use Rattle.w16_selectors.specs.Descriptors as selectors

-- where there is none, what follows from that
none_then : {X P Q : Type 0} (r : Option X) → IfNone r P → (P → Q) → IfNone r Q
none_then None known then_is = then_is known
none_then (Some x) known then_is = tt

module _ {h : C.Holding} {xs : List (Option C.Attributes)} {t : selectors.DescriptorTable} {m : ℕ} {w : C.Handles} (are : C.AreJoined h xs t) (shown : C.handles_of h xs m ≡ w) where
  module _ (r : Option ℕ) where
    -- a free slot of the selectors is one of the handles, and where there is none, none is free
    pub found_free : IfSome r (λ slot. C.IsUntaken t slot) → IfSome r (λ slot. C.IsFreeSlot w slot)
    found_free found = IfSome_then r found (free_slot are shown)

    pub none_free : IfNone r ((slot : ℕ) → C.IsUntaken t slot → ⊥) → IfNone r ((slot : ℕ) → C.IsFreeSlot w slot → ⊥)
    none_free none = none_then r none (λ h slot free. h slot (free_selector are shown slot free))

    -- and so are runs
    pub found_run : (count : ℕ) → IfSome r (λ first. selectors.IsFreeRun t first count) → IfSome r (λ first. IsFreeRun w first count)
    found_run count found = IfSome_then r found (λ first. free_run are shown first count)

    pub no_run : (count : ℕ) → 0 < count → IfNone r ((first : ℕ) → selectors.IsFreeRun t first count → ⊥) → IfNone r (HasNoRun w count)
    no_run count some none = none_then r none (λ h first free. h first (free_selectors are shown first count some free))

  -- slots behind an object's own
  module _ (slot count own : ℕ) (own_is : own ≡ C.slots_at w.attributes slot) (more : own < count) where
    pub extends : (b : Bool) → IsTrue b ↔ selectors.IsFreeRun t (slot + own) (count - own) → IsTrue b ↔ CanExtend w slot count
    extends b is = subst (λ n. IsTrue b ↔ IsFreeRun w (slot + n) (count - n)) own_is
        (λ yes. free_run are shown (slot + own) (count - own) (is.0 yes), λ free. is.1 (free_selectors are shown (slot + own) (count - own) (omega arith) free))

    pub ends : selectors.IsFreeRun t (slot + own) (count - own) → slot + count ≤ 8192
    ends free =
        let last = (free.1 (count - own - 1) (omega arith)).1 in
        let many = are.selectors_many in
        let few = are.handles.few in
        let some = are.some in
        omega (arith, last, many, few, some, more)

-- An object that can't be extended gets another run, if it may leave its own, or none.
module _ (w : C.Handles) (slot count : ℕ) (options : C.RoomOptions) (b : Bool) (may : IsSomeAnd (object_at w.heap slot) (λ o. b ≡ may_leave o options)) (not_here : CanExtend w slot count → ⊥) where
  each : (Q : Object → Type 0) → ((o : Object) → b ≡ may_leave o options → Q o) → IsSomeAnd (object_at w.heap slot) Q
  each Q give = turn (object_at w.heap slot) may
    where
      turn : (p : Option Object) → IsSomeAnd p (λ o. b ≡ may_leave o options) → IsSomeAnd p Q
      turn None h = absurd h
      turn (Some o) h = give o h

  pub gets_other : b ≡ true → (r : Option ℕ) → IfSome r (λ first. IsFreeRun w first count) → IfSome r (λ first. IsSomeAnd (object_at w.heap slot) (λ o. GetsRun w slot o options count first))
  gets_other leaves r found = IfSome_then r found (λ first free. each (λ o. GetsRun w slot o options count first) (λ o e. inr (not_here, sym e ∙ leaves, free)))

  pub lacks_run : (b ≡ true → HasNoRun w count) → IsSomeAnd (object_at w.heap slot) (λ o. LacksRun w slot o options count)
  lacks_run none = each (λ o. LacksRun w slot o options count) (λ o e. record { here = not_here; elsewhere = λ leaves. none (e ∙ leaves) })

  pub lacks_other : (r : Option ℕ) → IfNone r (HasNoRun w count) → IfNone r (IsSomeAnd (object_at w.heap slot) (λ o. LacksRun w slot o options count))
  lacks_other r none = none_then r none (λ h. lacks_run (λ _. h))
