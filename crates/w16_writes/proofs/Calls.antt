-- Calls on handles: each object's bytes before and after agree, wherever it went.
use Rattle.w16_model.proofs as model
use model.Common as C
use Rattle.w16_loading.proofs.Common as K
use model.Common.{◌≡◌, ◌≢◌, ℕ, ◌⊎◌, inl, inr, false, Bool, List, [], may_change, Option, Some, None, refl, sym, ap, ◌∙◌, subst, cases_eq, Heap, Object, object_at, bytes_at, Handles, rounded_size, Call}
use model.CallLaws.{contents, followed, next_other, next_own, object_beside, object_first, rest_of}
use Rattle.w16_model.specs.Reallocation.{AreResized, IsResized as IsObjectResized}
use Rattle.w16_loading.proofs.Common.{bytes_in}
use Rattle.w16_writes.proofs.Bytes.{some_such, which, Agree, agree_same, agree_gone, agree_new, agree_resized}

pub same_object : {o p : Option Object} → p ≡ o → Agree (bytes_in o) (bytes_in p)
same_object e = agree_same (ap bytes_in e)

module _ {b : Option (List ℕ)} {o : Option Object} (e : o ≡ None) where
  pub no_object : Agree b (bytes_in o)
  no_object = agree_gone (ap bytes_in e)

  pub had_no_object : Agree (bytes_in o) b
  had_no_object = agree_new (ap bytes_in e)

abbrev pub HeapsAgree : Heap → Heap → ℕ → Type 0
HeapsAgree old new q = Agree (bytes_at old q) (bytes_at new q)

pub kept_agrees : (old new : Heap) (q : ℕ) → C.IsKeptOrDiscarded old new q → HeapsAgree old new q
kept_agrees old new q (inl e) = same_object e
kept_agrees old new q (inr h) = agree_gone (ap bytes_in (some_such (object_at old q) h).2.3)

pub kept : {old new : Heap} {slot : Option ℕ} {count : ℕ} (q : ℕ) → K.KeepsOthers old slot count new → (slot ≡ Some q → ⊥) → HeapsAgree old new q
kept {old} {new} {slot} {count} q others d = kept_agrees old new q (K.kept_or_discarded old new slot count q others d)

-- of the object that gets another size
pub object_resized : (n : ℕ) (zero : Bool) {o : Object} (old new : Heap) (id q : ℕ) → q ≡ id → object_at old id ≡ Some o → C.IsSomeAnd (object_at new id) (IsObjectResized zero n o) → HeapsAgree old new q
object_resized n zero {o} old new id q e there r =
    let (p, f, r) = some_such (object_at new id) r in
    subst (HeapsAgree old new) (sym e) (subst (λ b. Agree b (bytes_at new id)) (sym (ap bytes_in there)) (agree_resized zero n o.bytes _ (subst (λ p. C.IsSomeAnd (bytes_in p) (AreResized zero n (C.unwrap_or o.bytes []))) (sym f) r.bytes)))

-- of one that loses its bytes
pub object_absent : (old : Heap) (id q : ℕ) → HeapsAgree old (C.absent old id) q
object_absent old id q = elim (cases_eq q id) [
  | inl e ↦ agree_gone (ap (bytes_at (C.absent old id)) e ∙ ap bytes_in (K.get-update_same old.objects id (λ (o : Object). record o { bytes = None })) ∙ bare (object_at old id))
  | inr d ↦ same_object (K.get-update_other _ id (λ (o : Object). record o { bytes = None }) q d)
]
  where
    bare : (p : Option Object) → bytes_in (C.option_map (λ (o : Object). let b : Object = record o { bytes = None } in b) p) ≡ None
    bare None = refl
    bare (Some o) = refl

pub apart : {slot q : ℕ} → q ≢ slot → ◌≡◌ {A = Option ℕ} (Some slot) (Some q) → ⊥
apart {slot} {q} d e = let same : slot ≡ q = cc in d (sym same)

pub none_apart : {q : ℕ} → ◌≡◌ {A = Option ℕ} None (Some q) → ⊥
none_apart e = cc

-- of the object that is reallocated, under the handle that is answered, and of the others
module _ (old new : Handles) (is : C.AreHandles old) (call : Call) (answer : C.Answer) where
  abbrev goes : ℕ → ℕ
  goes q = C.next_slot old call answer new q

  -- an object's bytes and those at its slot after the call
  abbrev pub FollowedAgree : ℕ → Type 0
  FollowedAgree q = Agree (bytes_at old.heap q) (bytes_at new.heap (goes q))

  resized_agrees : C.Resized old call answer new → (q : ℕ) → FollowedAgree q
  resized_agrees r q = elim (cases_eq q r.slot) [
    | inl e ↦ subst (Agree (bytes_at old.heap q)) (sym (ap (λ q. bytes_at new.heap (goes q)) e ∙ ap (bytes_at new.heap) (next_own old new is call answer r) ∙ ap bytes_in (object_first old new is call answer r) ∙ ap (bytes_at r.heap) (sym e)))
        (object_resized _ _ old.heap r.heap r.slot q e r.named.there k.object)
    | inr d ↦ elim (which (object_at old.heap q)) [
      | inl e ↦ had_no_object e
      | inr (o, e) ↦ subst (Agree (bytes_at old.heap q)) (sym (ap (bytes_at new.heap) (next_other old new is call answer r q d) ∙ ap bytes_in (object_beside old new is call answer r q (ap C.is_some e) d)))
          (kept q k.others (apart d))
    ]
  ]
    where
      k : C.KeepsRest old.heap r.slot (rounded_size r.size) r.object (C.realloc_options r.flags) r.heap
      k = rest_of old new is call answer r

  call_agrees_at : (q : ℕ) → ((s : ℕ) → goes s ≡ s) → C.Outcome old call answer new → HeapsAgree old.heap new.heap q
  call_agrees_at q stays made = by made
    where
      Agrees : Type 0
      Agrees = HeapsAgree old.heap new.heap q

      still : may_change call ≡ false → Agrees
      still m = agree_same ((contents old new call answer made m).bytes q)

      same : {h : Handles} → new ≡ h → object_at h.heap q ≡ object_at old.heap q → Agrees
      same e f = same_object (ap (λ (h : Handles). object_at h.heap q) e ∙ f)

      fresh : (slot size : ℕ) → q ≡ slot → K.IsFreeRun old slot (K.slots_for (rounded_size size)) → Agrees
      fresh slot size e free = had_no_object (ap (object_at old.heap) e ∙ K.unused old is slot (K.slots_for (rounded_size size)) (K.some_slots (rounded_size size)) free)

      by : C.Outcome old call answer new → Agrees
      by (C.IsSame s e) = same e refl
      by (C.IsUnmoved s e) = same e refl
      by (C.IsLocked l) = still (ap may_change l.asked)
      by (C.IsUnlocked u) = still (ap may_change u.asked)
      by (C.IsNewest n) = still (ap may_change n.asked)
      by (C.IsOldest n) = still (ap may_change n.asked)
      by (C.IsFreed f) = elim (cases_eq q f.slot) [
        | inl e ↦ no_object (ap (λ (h : Handles). object_at h.heap q) f.rest ∙ K.taken_here old.heap.objects f.slot q e)
        | inr d ↦ same f.rest (K.taken_other old.heap.objects f.slot q d)
      ]
      by (C.IsEntered e) = elim (cases_eq q e.slot) [
        | inl same ↦ fresh e.slot e.size same e.free
        | inr d ↦ same_object (ap (λ (h : Heap). object_at h q) e.entered.entered ∙ K.inserted_other old.heap.objects e.slot (record { kind = C.kind_asked e.flags; locks = 0; bytes = None }) q d)
      ]
      by (C.IsAllocated a) = elim (cases_eq q a.slot) [
        | inl same ↦ fresh a.slot a.size same a.free
        | inr d ↦ kept q ((K.others_law old.heap new.heap is.heap a.count).0 a.slot (C.alloc_options a.flags) a.object (C.with_newest a.slot a.object) a.settled) (apart d)
      ]
      by (C.IsCompacted c) = kept q ((K.others_law old.heap new.heap is.heap c.count).1 c.settled) none_apart
      by (C.IsModified m) = elim (cases_eq q m.slot) [
        | inl e ↦ agree_same (ap (bytes_at new.heap) e ∙ ap bytes_in m.changes.object ∙ sym (ap (bytes_at old.heap) e ∙ ap bytes_in m.named.there))
        | inr d ↦ same_object (m.changes.others q d)
      ]
      by (C.IsDiscarded d) = subst (λ (h : Handles). HeapsAgree old.heap h.heap q) (sym d.rest) (object_absent old.heap d.slot q)
      by (C.IsResized r) = subst (λ s. Agree (bytes_at old.heap q) (bytes_at new.heap s)) (stays q) (resized_agrees r q)

  module _ (step : C.CallStep old call answer new) (q : ℕ) where
    pub call_agrees : FollowedAgree q
    call_agrees = elim (followed old new call answer is step) [
      | inl stays ↦ subst (λ s. Agree (bytes_at old.heap q) (bytes_at new.heap s)) (sym (stays q)) (call_agrees_at q stays (K.outcome old new call answer is step))
      | inr r ↦ resized_agrees r q
    ]

    -- an object that gets another slot gets one that no object had
    pub goes_free : (goes q ≡ q) ⊎ (object_at old.heap (goes q) ≡ None)
    goes_free = elim (followed old new call answer is step) [
      | inl stays ↦ inl (stays q)
      | inr r ↦ elim (cases_eq q r.slot) [
        | inr d ↦ inl (next_other old new is call answer r q d)
        | inl e ↦
            let first = ap goes e ∙ next_own old new is call answer r in
            elim (cases_eq r.slot r.first) [
              | inl here ↦ inl (first ∙ sym here ∙ sym e)
              | inr d ↦ inr (ap (object_at old.heap) first ∙ K.was_free old is r.slot (rounded_size r.size) (C.realloc_options r.flags) r.object r.named.there r.first r.gets r.heap r.resized d)
            ]
      ]
    ]
