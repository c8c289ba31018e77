-- A new object for a resource, and an object that goes.
use Rattle.w16_resource.proofs.Common as C
use Rattle.w16_resource.proofs.Common.{FinMap, Fixed, Kind, List, None, Object, Option, Owned, Some, ap, arith, cases_eq, false, false≢true, handle_of, inl, inr, is_some, nat_cmp}
use Rattle.w16_resource.proofs.Common.{not, refl, same_values, subst, sym, taken_here, taken_other, ℕ, ◌/◌, ◌==◌, ◌∙◌, ◌≡◌}
use Rattle.std.specs.FinMap as finmap

-- the handles with a new object for a resource
abbrev pub with_new : C.Handles → ℕ → C.Resource → C.Handles
with_new handles slot r = record handles {
  heap = C.with_object handles.heap slot (record { kind = r.kind; locks = 0; bytes = None });
  attributes = finmap.insert handles.attributes slot (C.attributes_for r);
}

slot_of_name : (kind : Kind) (slot handle : ℕ) → handle ≡ handle_of kind slot → handle / 8 ≡ slot
slot_of_name Fixed slot handle named = omega arith
slot_of_name C.Moveable slot handle named = omega arith
slot_of_name C.Discardable slot handle named = omega arith

module _ (old new : C.Handles) (kind : Kind) (owned : Owned) (handle : ℕ) (t : C.TakesOwned old kind owned handle new) (r : C.Resource)
    (same : kind ≡ r.kind) (owns : owned ≡ record { size = C.rounded_size r.length_in; code = false }) where
  pub here : handle / 8 ≡ t.slot
  here = slot_of_name kind t.slot handle t.named

  pub named : handle ≡ handle_of r.kind t.slot
  named = t.named ∙ ap (λ k. handle_of k t.slot) same

  pub taken : new ≡ with_new old t.slot r
  taken = t.rest ∙ (λ i. record old {
    heap = (t.entered.entered ∙ (λ j. C.with_object old.heap t.slot (record { kind = same j; locks = 0; bytes = None }))) i;
    attributes = finmap.insert old.attributes t.slot (record { shared = false; owned = Some (owns i); slots = 1 });
  })

-- what is put in and taken out again
pub back : {X : Type 0} (m : FinMap nat_cmp X) (slot : ℕ) (x : X) → finmap.get m slot ≡ None → finmap.remove (finmap.insert m slot x) slot ≡ m
back m slot x none = same_values (finmap.remove (finmap.insert m slot x) slot) m (λ q. elim (cases_eq q slot) [
  | inl e ↦ taken_here (finmap.insert m slot x) slot q e ∙ sym (ap (finmap.get m) e ∙ none)
  | inr d ↦ taken_other (finmap.insert m slot x) slot q d ∙ C.inserted_other m slot x q d
])

-- it lacks its bytes
module _ (old : C.Handles) (slot : ℕ) (r : C.Resource) where
  abbrev entered : Object
  entered = record { kind = r.kind; locks = 0; bytes = None }

  at_slot : C.object_at (with_new old slot r).heap slot ≡ Some entered
  at_slot = C.inserted_here old.heap.objects slot entered slot refl

  pub owned_new : C.owned_at (with_new old slot r) slot ≡ Some (record { size = C.rounded_size r.length_in; code = false })
  owned_new = ap C.owned_in (C.inserted_here old.attributes slot (C.attributes_for r) slot refl)

  pub lacks_new : (handle : ℕ) → handle ≡ handle_of r.kind slot → C.LacksBytes (with_new old slot r) handle
  lacks_new handle named = record {
    named = (C.names_law (with_new old slot r) handle slot).0.1 (subst (λ p. C.IsSomeAnd p (λ (o : Object). handle ≡ handle_of o.kind slot)) (sym at_slot) named) ∙ ap Some (sym here);
    owned = ap (C.is_owned (with_new old slot r)) here ∙ ap is_some owned_new;
    without_bytes = ap (C.bytes_at (with_new old slot r).heap) here ∙ ap (λ (p : Option Object). elim p as (λ _. Option (List ℕ)) [ Some o ↦ o.bytes | None ↦ None ]) at_slot;
  }
    where
      here : handle / 8 ≡ slot
      here = slot_of_name r.kind slot handle named

  -- taken away again, it leaves the same handles
  unset : {X : Type 0} (m : FinMap nat_cmp X) → finmap.get m slot ≡ None → finmap.remove m slot ≡ m
  unset m none = same_values (finmap.remove m slot) m (λ q. elim (cases_eq q slot) [
    | inl e ↦ taken_here m slot q e ∙ sym (ap (finmap.get m) e ∙ none)
    | inr d ↦ taken_other m slot q d
  ])

  none_of : {X : Type 0} (p : Option X) → is_some p ≡ false → p ≡ None
  none_of None e = refl
  none_of (Some x) e = absurd (false≢true (sym e))

  pub taken_back : C.AreHandles old → C.object_at old.heap slot ≡ None → C.without_slot (with_new old slot r) slot ≡ old
  taken_back is none = λ i. record old {
    heap = record old.heap {
      objects = back old.heap.objects slot entered none i;
      places = unset old.heap.places (none_of (finmap.get old.heap.places slot)
          (is.heap.at_bytes slot ∙ ap (λ p. is_some (elim p as (λ _. Option (List ℕ)) [ Some o ↦ o.bytes | None ↦ None ])) none)) i;
      order = C.without_absent slot old.heap.order (is.heap.in_order slot ∙ ap C.is_in_order none) i;
    };
    attributes = back old.attributes slot (C.attributes_for r) (none_of (finmap.get old.attributes slot) (is.attributed slot ∙ ap is_some none)) i;
  }

-- One object goes, or all of one slot.
pub one_gone : {X : Type 0} (m : FinMap nat_cmp X) (slot : ℕ) → finmap.remove m slot ≡ finmap.retain_keys m (λ q. not (q == slot))
one_gone m slot = same_values (finmap.remove m slot) (finmap.retain_keys m (λ q. not (q == slot))) (λ q. elim (cases_eq q slot) [
  | inl e ↦ taken_here m slot q e ∙ sym (C.value_gone m (λ k. k == slot) q (C.eq-eqb q slot e))
  | inr d ↦ taken_other m slot q d ∙ sym (C.value_left m (λ k. k == slot) q (C.ne_eqb q slot d))
])

pub slot_gone : (world : C.LoadingWorld) (slot : ℕ) → C.with_handles world (C.without_slot world.handles slot) ≡ C.without_objects (λ q. q == slot) world
slot_gone world slot = λ i. record world {
  handles = record world.handles {
    heap = record world.handles.heap {
      objects = one_gone world.handles.heap.objects slot i;
      places = one_gone world.handles.heap.places slot i;
      order = C.without slot world.handles.heap.order;
    };
    attributes = one_gone world.handles.attributes slot i;
  };
}
