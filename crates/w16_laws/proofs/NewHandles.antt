-- What an object keeps at another handle.
use Rattle.w16_model.proofs
use proofs.Common as C
use proofs.Common.{◌≡◌, ◌≢◌, ℕ, ◌/◌, inl, inr, true, false, cond, if◌then◌else◌, ◌&&◌, ◌==◌, [], ◌∷◌, ◌++◌, map, Some, refl, sym, ap, ◌∙◌, without_all, Handles, Word}
use proofs.ResizedHandles.{answered, moves}
use proofs.{CallLaws.rest_of, CallOrders.gone_bare, CallOrders.gone_for, KeptHeaps.inserted_here, KeptRest.no_more, Naming.slot_in_handle}
use Rattle.w16_model.specs.{declared.Attributes.Attributes, Calls.is_shared}
use Rattle.std.specs.FinMap as finmap
use Rattle.w16_laws.specs.CallLaws.{ExtendedLaw, PlaceLaw, SharedLaw}

module _ (old new : Handles) (handle size flags answer slot : ℕ) (is : C.AreHandles old) (found : C.slot_of_handle old handle ≡ Some slot) (r : C.Resized old (C.ReAllocs handle size flags) (Word answer) new) where
  named : r.handle ≡ handle
  named = let e = r.asked in cc

  size_is : r.size ≡ size
  size_is = let e = r.asked in cc

  slot_is : r.slot ≡ slot
  slot_is = let same : ◌≡◌ {A = C.Option ℕ} (Some r.slot) (Some slot) = sym r.named.found ∙ ap (C.slot_of_handle old) named ∙ found in cc

  first_is : answer / 8 ≡ r.first
  first_is = let e : answer ≡ C.handle_of r.object.kind r.first = (let f = r.answered in cc) in ap (λ n. n / 8) e ∙ slot_in_handle r.object.kind r.first

  leaves : answer ≢ handle → r.slot ≢ r.first
  leaves d = moves old new is (C.ReAllocs handle size flags) (Word answer) r answer handle refl named d

  -- where its run can be extended it begins where it did
  extended : C.CanExtend old slot (C.slots_for (C.rounded_size size)) → r.slot ≡ r.first
  extended can = elim r.gets [
    | inl g ↦ sym g.1
    | inr g ↦ absurd (g.0 (C.subst (λ s. C.CanExtend old s (C.slots_for (C.rounded_size r.size))) (sym slot_is) (C.subst (λ n. C.CanExtend old slot (C.slots_for (C.rounded_size n))) (sym size_is) can)))
  ]

  -- its attributes but for the number of its slots
  shared : is_shared new (answer / 8) ≡ is_shared old slot
  shared = ap (is_shared new) first_is ∙ ap (λ h. is_shared h r.first) r.rest ∙ turn (finmap.get old.attributes r.slot) (is.attributed r.slot ∙ ap C.is_some r.named.there) ∙ ap (is_shared old) slot_is
    where
      bit : C.Option Attributes → C.Bool
      bit p = C.unwrap_or (C.option_map (λ a. a.shared) p) false

      turn : (p : C.Option Attributes) → C.is_some p ≡ true
          → bit (finmap.get (elim p [ Some a ↦ finmap.insert (finmap.remove old.attributes r.slot) r.first (record a { slots = C.slots_for (C.rounded_size r.size) }) | C.None ↦ old.attributes ]) r.first) ≡ bit p
      turn C.None some = absurd (C.false≢true some)
      turn (Some a) some = ap bit (inserted_here (finmap.remove old.attributes r.slot) r.first (record a { slots = C.slots_for (C.rounded_size r.size) }) r.first refl)

  -- what was discarded for it
  abbrev gone : C.List ℕ
  gone = gone_for old new is (C.ReAllocs handle size flags) (Word answer) r

  -- the order after, where the object was in it
  placed : r.slot ≢ r.first → C.is_member slot old.heap.order ≡ true → new.heap.order ≡ map (λ q. if q == slot then answer / 8 else q) (without_all gone old.heap.order)
  placed d listed =
      ap (λ h. h.heap.order) r.rest
      ∙ (λ i. (cond {A = C.Heap} (C.ne_eqb r.slot r.first d i) r.heap (record r.heap {
        objects = C.rekeyed r.heap.objects r.slot r.first;
        places = C.rekeyed r.heap.places r.slot r.first;
        order = map (λ q. if q == r.slot then r.first else q) r.heap.order;
      })).order)
      ∙ ap (map (λ q. if q == r.slot then r.first else q)) order_kept
      ∙ (λ i. map (λ q. if q == slot_is i then sym first_is i else q) (without_all gone old.heap.order))
    where
      kept : C.KeepsRest old.heap r.slot (C.rounded_size r.size) r.object (C.realloc_options r.flags) r.heap
      kept = rest_of old new is (C.ReAllocs handle size flags) (Word answer) r

      has : (C.is_discardable r.object.kind && C.is_some r.object.bytes) ≡ true
      has = sym (is.heap.in_order r.slot ∙ ap C.is_in_order r.named.there) ∙ ap (λ s. C.is_member s old.heap.order) slot_is ∙ listed

      not_revived : (b e : C.Bool) → (b && e) ≡ true → (C.not e && b) ≡ false
      not_revived true true t = refl
      not_revived true false t = absurd (C.false≢true t)
      not_revived false e t = absurd (C.false≢true t)

      order_kept : r.heap.order ≡ without_all gone old.heap.order
      order_kept = kept.order
          ∙ ap (λ b. without_all gone old.heap.order ++ cond {A = C.List ℕ} b (r.slot ∷ []) []) (not_revived (C.is_discardable r.object.kind) (C.is_some r.object.bytes) has)
          ∙ no_more (without_all gone old.heap.order)

pub extended_law : ExtendedLaw
extended_law old new handle size flags answer slot is step found can some = elim (answered old new _ size flags _ is step some) [
  | inl e ↦ e
  | inr r ↦ elim (C.cases_eq _ _) [
    | inl e ↦ e
    | inr d ↦ absurd (leaves old new _ _ _ _ slot is found r d (extended old new _ _ _ _ _ is found r can))
  ]
]

pub shared_law : SharedLaw
shared_law old new handle size flags answer slot is step found some d = elim (answered old new _ size flags _ is step some) [
  | inl e ↦ absurd (d e)
  | inr r ↦ shared old new _ _ _ _ _ is found r
]

pub place_law : PlaceLaw
place_law old new handle size flags answer slot is step found some d listed = elim (answered old new _ size flags _ is step some) [
  | inl e ↦ absurd (d e)
  | inr r ↦ (
    gone_for old new is _ _ r,
    gone_bare old new is _ _ r,
    placed old new _ _ _ _ _ is found r (leaves old new _ _ _ _ slot is found r d) listed,
  )
]
