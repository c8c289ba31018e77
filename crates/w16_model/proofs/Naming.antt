-- The look-ups of handles and selectors.
use Rattle.w16_model.proofs.Common as C
use Rattle.w16_model.proofs.Common.{◌≡◌, ℕ, ◌/◌, Bool, true, false, cond, ◌&&◌, ◌==◌, Option, Some, None, is_some, refl, sym, ap, ◌∙◌, subst, arith, false≢true, Kind, Fixed, Object, object_at, slot_of_handle, slot_of_selector, handle_of, selector_of}

-- a handle and a selector tell their slot
pub slot_in_handle : (kind : Kind) (slot : ℕ) → handle_of kind slot / 8 ≡ slot
slot_in_handle Fixed slot = omega arith
slot_in_handle C.Moveable slot = omega arith
slot_in_handle C.Discardable slot = omega arith

module _ (handles : C.Handles) (name slot : ℕ) where
  abbrev HasHandle : Option Object → ℕ → Type 0
  HasHandle p i = C.IsSomeAnd p (λ o. name ≡ handle_of o.kind i)

  handle_finds : slot_of_handle handles name ≡ Some slot → HasHandle (object_at handles.heap slot) slot
  handle_finds found = from (object_at handles.heap (name / 8)) refl found
    where
      here : (o : Object) → object_at handles.heap (name / 8) ≡ Some o → (t : Bool) → (name == handle_of o.kind (name / 8)) ≡ t → cond t (Some (name / 8)) None ≡ Some slot → HasHandle (object_at handles.heap slot) slot
      here o there true t e =
          let same : name / 8 ≡ slot = cc in
          subst (λ i. HasHandle (object_at handles.heap i) i) same (subst (λ p. HasHandle p (name / 8)) (sym there) (C.eqb-true name (handle_of o.kind (name / 8)) t))
      here o there false t e = cc

      from : (p : Option Object) → object_at handles.heap (name / 8) ≡ p → (elim p [ Some o ↦ cond (name == handle_of o.kind (name / 8)) (Some (name / 8)) None | None ↦ None ]) ≡ Some slot → HasHandle (object_at handles.heap slot) slot
      from None there e = cc
      from (Some o) there e = here o there (name == handle_of o.kind (name / 8)) refl e

  finds_handle : HasHandle (object_at handles.heap slot) slot → slot_of_handle handles name ≡ Some slot
  finds_handle has = from (object_at handles.heap slot) refl has
    where
      from : (p : Option Object) → object_at handles.heap slot ≡ p → HasHandle p slot → slot_of_handle handles name ≡ Some slot
      from None there h = absurd h
      from (Some o) there h =
          let at : name / 8 ≡ slot = ap (λ n. n / 8) h ∙ slot_in_handle o.kind slot in
          ap (λ i. elim (object_at handles.heap i) [ Some o ↦ cond (name == handle_of o.kind i) (Some i) None | None ↦ None ]) at
          ∙ ap (λ (q : Option Object). elim q [ Some o ↦ cond (name == handle_of o.kind slot) (Some slot) None | None ↦ None ]) there
          ∙ ap (λ b. cond b (Some slot) None) (C.eq-eqb name (handle_of o.kind slot) h)

  abbrev HasSelector : Option Object → ℕ → Type 0
  HasSelector p i = C.IsSomeAnd p (λ _. name ≡ selector_of i)

  selector_finds : slot_of_selector handles name ≡ Some slot → HasSelector (object_at handles.heap slot) slot
  selector_finds found = from (is_some (object_at handles.heap (name / 8)) && (name == selector_of (name / 8))) refl found
    where
      there : (p : Option Object) → is_some p ≡ true → name ≡ selector_of (name / 8) → HasSelector p (name / 8)
      there None t e = absurd (false≢true t)
      there (Some o) t e = e

      from : (b : Bool) → (is_some (object_at handles.heap (name / 8)) && (name == selector_of (name / 8))) ≡ b → cond b (Some (name / 8)) None ≡ Some slot → HasSelector (object_at handles.heap slot) slot
      from false t e = cc
      from true t e =
          let parts : C.IsTrue (is_some (object_at handles.heap (name / 8))) × C.IsTrue (name == selector_of (name / 8)) = C.and_parts (is_some (object_at handles.heap (name / 8))) (name == selector_of (name / 8)) t in
          let same : name / 8 ≡ slot = cc in
          subst (λ i. HasSelector (object_at handles.heap i) i) same (there (object_at handles.heap (name / 8)) parts.0 (C.eqb-true name (selector_of (name / 8)) parts.1))

  finds_selector : HasSelector (object_at handles.heap slot) slot → slot_of_selector handles name ≡ Some slot
  finds_selector has = from (object_at handles.heap slot) refl has
    where
      from : (p : Option Object) → object_at handles.heap slot ≡ p → HasSelector p slot → slot_of_selector handles name ≡ Some slot
      from None there h = absurd h
      from (Some o) there h =
          let at : name / 8 ≡ slot = ap (λ n. n / 8) h ∙ (omega arith) in
          ap (λ i. cond (is_some (object_at handles.heap i) && (name == selector_of i)) (Some i) None) at
          ∙ ap (λ (q : Option Object). cond (is_some q && (name == selector_of slot)) (Some slot) None) there
          ∙ ap (λ b. cond b (Some slot) None) (C.eq-eqb name (selector_of slot) h)

pub names_law : C.NamesLaw
names_law handles name slot = ((handle_finds handles name slot, finds_handle handles name slot), (selector_finds handles name slot, finds_selector handles name slot))
