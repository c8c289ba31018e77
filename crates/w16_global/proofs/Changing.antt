-- What is joined, once an object has another kind, or has given up its bytes.
use Rattle.w16_global.proofs
use proofs.Common.{◌≡◌, ◌≢◌, ℕ, ◌-◌, ◌≤◌, ◌||◌, ◌==◌, inl, inr, true, false, IfSome, OnOk, IfErr, List, length, Option, Some, None, Result, Ok, Err, option_map, unwrap_or, refl, sym, ap, ◌∙◌, subst, nat_cmp, FinMap, false≢true, cases_eq, cases_Bool, eq-eqb, is_some, Attributes, Kind}
use proofs.Common.{Refusal, FIRST_SLOT, Heap, Object, object_at, bytes_at, bytes_in, is_fixed, absent, after_modify, after_discard, Handles, AreHandles, slots_at, ChangesKind, modified, discard_absent, get-update_same, get-update_other, taken_other, kind_law, modify_none, modified_handles}
use proofs.Common.{discarded_handles, descriptor_at, unset, Descriptor, SelKind, Holding, attributes_in, handles_of, descriptor_for, kind_in, reaching, says, vacated, AreJoined}
use proofs.{Owners.joined_same, Owners.labelled, Told.all_told, Told.slots_are, Told.vacated_told, Described.same_described}
use Rattle.std.specs.FinMap as finmap
use Rattle.w16_model.specs.declared.Refusal.TheVariants as refusals
use Rattle.w16_selectors.specs.Descriptors as selectors

-- a change of kind leaves what selectors say
kind_says : (holds : SelKind) (number : ℕ) (old new : Heap) (slot : ℕ) (o : Object) (kind : Kind) → object_at old slot ≡ Some o → ChangesKind old slot o kind new → (q : ℕ) → says new holds number q ≡ says old holds number q
kind_says holds number old new slot o kind there c q = elim (cases_eq q slot) [
  | inl e ↦ ap (option_map (descriptor_for new holds number q)) (ap (object_at new) e ∙ c.object) ∙ placed o.bytes
      ∙ sym (ap (option_map (descriptor_for old holds number q)) (ap (object_at old) e ∙ there))
  | inr d ↦ same_described holds number old new q (c.others q d) (ap (λ places. finmap.get places q) c.places)
]
  where
    placed : (b : Option (List ℕ)) → ◌≡◌ {A = Option Descriptor} (Some (elim b as (λ _. Descriptor) [ None ↦ unset holds number | Some bytes ↦ reaching holds (unwrap_or (finmap.get new.places q) 0) (length bytes) number ]))
        (Some (elim b as (λ _. Descriptor) [ None ↦ unset holds number | Some bytes ↦ reaching holds (unwrap_or (finmap.get old.places q) 0) (length bytes) number ]))
    placed None = refl
    placed (Some bytes) = ap (λ places. Some (reaching holds (unwrap_or (finmap.get places q) 0) (length bytes) number)) c.places

-- an object that gave up its bytes leaves what the selectors of others say
others_say : (holds : SelKind) (number : ℕ) (heap : Heap) (slot q : ℕ) → q ≢ slot → says (absent heap slot) holds number q ≡ says heap holds number q
others_say holds number heap slot q other = same_described holds _ heap (absent heap slot) q (get-update_other _ slot (λ o. record o { bytes = None }) q other) (taken_other _ slot q other)

-- the heap that is left
modified_is : (heap new : Heap) (slot : ℕ) (kind : Kind) → after_modify heap slot kind ≡ Ok new → modified heap slot kind ≡ new
modified_is heap new slot kind done = ap (λ r. elim r as (λ _. Heap) [ Ok new ↦ new | Err _ ↦ heap ]) done

module _ {h : Holding} {xs : List (Option Attributes)} {t : selectors.DescriptorTable} (are : AreJoined h xs t) (new : Holding) (cap : new.cap ≡ h.cap) (slot : ℕ) where
  -- another heap under the same attributes
  same_slots : record (handles_of h xs 0) { heap = new.heap } ≡ handles_of new xs 0
  same_slots = λ i. record { slots = sym cap i - FIRST_SLOT; heap = new.heap; attributes = attributes_in xs; moved = 0 }

  -- a change of kind
  module _ {U : Type 0} (kind : Kind) (r : Result U Refusal) (ok : OnOk r (after_modify h.heap slot kind ≡ Ok new.heap)) (err : IfErr r (λ e. (after_modify h.heap slot kind ≡ Err e) × (new ≡ h))) where
    pub modified_joined : AreJoined new xs t
    modified_joined = turn r ok err
      where
        said : after_modify h.heap slot kind ≡ Ok new.heap → (p : Option Object) → object_at h.heap slot ≡ p → IfSome p (λ o.
            ((is_fixed o.kind || is_fixed kind) ≡ true → after_modify h.heap slot kind ≡ Err refusals.Fixed)
            × ((is_fixed o.kind || is_fixed kind) ≡ false → (left : Heap) × (after_modify h.heap slot kind ≡ Ok left) × ChangesKind h.heap slot o kind left)) → (holds : SelKind) (number q : ℕ) → says new.heap holds number q ≡ says h.heap holds number q
        said done None there law holds number q = let both : ◌≡◌ {A = Result Heap Refusal} (Err refusals.Absent) (Ok new.heap) = sym (modify_none h.heap slot kind there) ∙ done in cc
        said done (Some o) there law holds number q = elim (cases_Bool (is_fixed o.kind || is_fixed kind)) [
          | inl fixed ↦ let both : ◌≡◌ {A = Result Heap Refusal} (Err refusals.Fixed) (Ok new.heap) = sym (law.0 fixed) ∙ done in cc
          | inr loose ↦
              let left : (left : Heap) × (after_modify h.heap slot kind ≡ Ok left) × ChangesKind h.heap slot o kind left = law.1 loose in
              let both : ◌≡◌ {A = Result Heap Refusal} (Ok left.0) (Ok new.heap) = sym left.1 ∙ done in
              let same : left.0 ≡ new.heap = cc in
              subst (λ (k : Heap). says k holds number q ≡ says h.heap holds number q) same (kind_says holds number h.heap left.0 slot o kind there left.2 q)
        ]

        turn : (r : Result U Refusal) → OnOk r (after_modify h.heap slot kind ≡ Ok new.heap) → IfErr r (λ e. (after_modify h.heap slot kind ≡ Err e) × (new ≡ h)) → AreJoined new xs t
        turn (Ok u) done refused =
            joined_same are new cap
            (subst AreHandles same_slots (subst (λ (k : Heap). AreHandles (record (handles_of h xs 0) { heap = k })) (modified_is h.heap new.heap slot kind done) (modified_handles (handles_of h xs 0) are.handles slot kind)))
            (said done (object_at h.heap slot) refl (kind_law h.heap slot kind are.handles.heap))
        turn (Err e) done refused = subst (λ k. AreJoined k xs t) (sym refused.1) are

  -- an object that gave up its bytes
  module _ {m : ℕ} {w : Handles} (shown : handles_of h xs m ≡ w) (known : is_some (object_at w.heap slot) ≡ true) (done : after_discard h.heap slot ≡ Ok new.heap) where
    gone : new.heap ≡ absent h.heap slot
    gone = discard_absent h.heap new.heap slot done

    left : AreHandles (handles_of new xs 0)
    left = subst AreHandles same_slots (discarded_handles (handles_of h xs 0) are.handles slot new.heap done)

    -- it had bytes, if any, and has none
    none : bytes_at new.heap slot ≡ None
    none = ap (λ (k : Heap). bytes_at k slot) gone ∙ ap bytes_in (get-update_same h.heap.objects slot (λ (o : Object). record o { bytes = None })) ∙ turn (object_at h.heap slot)
      where
        turn : (p : Option Object) → bytes_in (option_map (λ (o : Object). record o { bytes = None }) p) ≡ None
        turn None = refl
        turn (Some o) = refl

    pub emptied_joined : (count : ℕ) → count ≡ slots_at w.attributes slot → (after : selectors.DescriptorTable) → ((q : ℕ) → descriptor_at after q ≡ vacated slot count t q) → length after ≡ length t → AreJoined new xs after
    emptied_joined count count_is after vacates many = record {
      handles = left;
      described = all_told new xs left (λ first. slot == first) t after (labelled are) (λ q. vacates q ∙ ap (λ n. vacated slot n t q) (count_is ∙ ap (λ (v : Handles). slots_at v.attributes slot) (sym shown) ∙ sym (slots_are new xs left slot)) ∙ vacated_told new xs left t (labelled are) slot none q)
          (λ q first e other. are.described q ∙ ap (λ p. elim p as (λ _. Option Descriptor) [ None ↦ None | Some first ↦ says h.heap (kind_in xs first) (q - first) first ]) e
          ∙ sym (ap (λ (k : Heap). says k (kind_in xs first) (q - first) first) gone ∙ others_say (kind_in xs first) (q - first) h.heap slot first (λ same. false≢true (sym other ∙ eq-eqb slot first (sym same)))));
      sized = are.sized;
      attributes_many = are.attributes_many ∙ sym cap;
      selectors_many = many ∙ are.selectors_many ∙ sym cap;
      some = subst (λ n. FIRST_SLOT ≤ n) (sym cap) are.some;
    }
