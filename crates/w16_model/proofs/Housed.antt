-- An answered reallocation of an object to n bytes: its object has the run of slots that these need, and what is left are handles.
use Rattle.w16_model.proofs
use proofs.Common as C
use proofs.Runs as M
use proofs.Common.{◌≡◌, ◌≢◌, ℕ, ◌+◌, ◌-◌, ◌<◌, ◌≤◌, inl, inr, Bool, true, false, cond, ◌==◌, if◌then◌else◌, IfSome, IsSomeAnd, List, [], map, take, Option, Some, None, is_some, refl, sym, ap, ◌∙◌, subst, arith, nat_cmp, false≢true, cases_eq, Attributes, REACH, Heap, Object, IsHeap}
use proofs.Common.{object_at, without, AreHandles, IsRun, IsSized, slots_at, slots_for}
use proofs.KeptHeaps.{bytes_in, inserted_here, inserted_other, taken_here, taken_other}
use proofs.Rehoused.{swap, swap_to, swap_from, swap_other, object_there, place_there, order_there as order_moved, rehoused_heap, new as moved_heap}
use proofs.{Runs.IsIn, KeptHandles.sized_is, Reallocations.heap_law, KeptRest.rest_law}
use Rattle.w16_model.specs.{Reallocation.IsResized, Owned.owned_at, Owned.owned_in, declared.Owned.Owned}
use Rattle.std.specs.FinMap as finmap

-- an object has a slot, and where one is enough it stays
module _ (old : C.Handles) (is : AreHandles old) (slot : ℕ) (o : Object) (there : object_at old.heap slot ≡ Some o) where
  has_attributes : is_some (finmap.get old.attributes slot) ≡ true
  has_attributes = is.attributed slot ∙ ap is_some there

  pub stays : (n : ℕ) (options : C.RoomOptions) (first : ℕ) → n ≤ REACH → C.GetsRun old slot o options (slots_for n) first → first ≡ slot
  stays n options first few gets = elim gets [
    | inl here ↦ here.1
    | inr goes ↦ absurd (goes.0 (λ k below. absurd (never below)))
  ]
    where
      one : slots_for n ≤ 1
      one = omega (arith, few)

      never : {k : ℕ} → k < slots_for n - slots_at old.attributes slot → ⊥
      never below = omega (arith, below, one, (M.first_in old.slots old.attributes is.runs slot has_attributes).1)

module _ (old : C.Handles) (is : AreHandles old) (slot n : ℕ) (options : C.RoomOptions) (o : Object) (there : object_at old.heap slot ≡ Some o) (first : ℕ) (gets : C.GetsRun old slot o options (slots_for n) first)
    (heap : Heap) (resized : C.Reallocates old.heap slot n options true heap) where
  sound : IsHeap heap
  sound = heap_law old.heap heap slot n options true is.heap resized

  pub keeps : C.KeepsRest old.heap slot n o options heap
  keeps = subst (λ p. IsSomeAnd p (λ o. C.KeepsRest old.heap slot n o options heap)) there (rest_law old.heap heap slot n options is.heap resized)

  -- the other slots have an object where they had one, with enough slots
  abbrev Kept : ℕ → Option Object → Type 0
  Kept q before = (is_some (object_at heap q) ≡ is_some before) × IsSized (slots_at old.attributes q) (C.bytes_at heap q)

  kept : (q : ℕ) → q ≢ slot → Kept q (object_at old.heap q)
  kept q d = elim (C.cases_Bool (C.is_member q (take keeps.count (C.eligible (C.blocks old.heap) old.heap.order (Some slot))))) [
    | inl t ↦ gone (object_at old.heap q) (keeps.others.discarded q t)
    | inr f ↦
        let same : object_at heap q ≡ object_at old.heap q = keeps.others.kept q (λ e. let at : slot ≡ q = cc in d (sym at)) (λ t. false≢true (sym f ∙ t)) in
        (ap is_some same, sized_is refl (ap bytes_in same) (is.sized q))
  ]
    where
      gone : (p : Option Object) → IsSomeAnd p (λ o. (o.kind ≡ C.Discardable) × (o.locks ≡ 0) × (is_some o.bytes ≡ true) × (object_at heap q ≡ Some (record o { bytes = None }))) → Kept q p
      gone None h = absurd h
      gone (Some o) h = (ap is_some h.3, sized_is refl (ap bytes_in h.3) tt)

  -- a new first slot had none
  pub was_free : slot ≢ first → object_at old.heap first ≡ None
  was_free d = elim gets [
    | inl here ↦ absurd (d (sym here.1))
    | inr goes ↦ M.unused old is first (slots_for n) (M.some_slots n) goes.2
  ]

  free_there : slot ≢ first → object_at heap first ≡ None
  free_there d = turn (object_at heap first) refl ((kept first (λ e. d (sym e))).0 ∙ ap is_some (was_free d))
    where
      turn : (p : Option Object) → object_at heap first ≡ p → is_some p ≡ false → object_at heap first ≡ None
      turn None e f = e
      turn (Some o) e f = absurd (false≢true (sym f))

  -- The heap with the object at its first slot.
  abbrev pub housed : Heap
  housed = C.rehoused heap slot first

  abbrev either : Bool → Heap
  either b = cond b heap (record heap { objects = C.rekeyed heap.objects slot first; places = C.rekeyed heap.places slot first; order = map (λ q. if q == slot then first else q) heap.order })

  pub housed_here : slot ≡ first → housed ≡ heap
  housed_here e = ap either (C.eq-eqb slot first e)

  housed_there : (d : slot ≢ first) → housed ≡ moved_heap slot first d heap sound (free_there d)
  housed_there d = ap either (C.ne_eqb slot first d)

  housed_heap : IsHeap housed
  housed_heap = elim (cases_eq slot first) [
    | inl e ↦ subst IsHeap (sym (housed_here e)) sound
    | inr d ↦ subst IsHeap (sym (housed_there d)) (rehoused_heap slot first d heap sound (free_there d))
  ]

  pub housed_range : (housed.lo ≡ heap.lo) × (housed.hi ≡ heap.hi) × (housed.grain ≡ heap.grain)
  housed_range = turn (slot == first)
    where
      turn : (b : Bool) → ((either b).lo ≡ heap.lo) × ((either b).hi ≡ heap.hi) × ((either b).grain ≡ heap.grain)
      turn true = (refl, refl, refl)
      turn false = (refl, refl, refl)

  object_of : (d : slot ≢ first) (q : ℕ) → object_at housed q ≡ object_at (moved_heap slot first d heap sound (free_there d)) q
  object_of d q = ap (λ (h : Heap). object_at h q) (housed_there d)

  pub housed_first : object_at housed first ≡ object_at heap slot
  housed_first = elim (cases_eq slot first) [
    | inl e ↦ ap (λ (h : Heap). object_at h first) (housed_here e) ∙ ap (object_at heap) (sym e)
    | inr d ↦ object_of d first ∙ object_there slot first d heap sound (free_there d) first ∙ ap (object_at heap) (swap_to slot first d first refl)
  ]

  pub housed_old : slot ≢ first → object_at housed slot ≡ None
  housed_old d = object_of d slot ∙ object_there slot first d heap sound (free_there d) slot ∙ ap (object_at heap) (swap_from slot first d slot refl) ∙ free_there d

  pub housed_other : (q : ℕ) → q ≢ first → q ≢ slot → object_at housed q ≡ object_at heap q
  housed_other q c b = elim (cases_eq slot first) [
    | inl e ↦ ap (λ (h : Heap). object_at h q) (housed_here e)
    | inr d ↦ object_of d q ∙ object_there slot first d heap sound (free_there d) q ∙ ap (object_at heap) (swap_other slot first d q c b)
  ]

  -- its addresses
  place_of : (d : slot ≢ first) (q : ℕ) → finmap.get housed.places q ≡ finmap.get heap.places (swap slot first d q)
  place_of d q = ap (λ (h : Heap). finmap.get h.places q) (housed_there d) ∙ place_there slot first d heap sound (free_there d) q

  pub place_first : finmap.get housed.places first ≡ finmap.get heap.places slot
  place_first = elim (cases_eq slot first) [
    | inl e ↦ ap (λ (h : Heap). finmap.get h.places first) (housed_here e) ∙ ap (finmap.get heap.places) (sym e)
    | inr d ↦ place_of d first ∙ ap (finmap.get heap.places) (swap_to slot first d first refl)
  ]

  pub place_other : (q : ℕ) → q ≢ first → q ≢ slot → finmap.get housed.places q ≡ finmap.get heap.places q
  place_other q c b = elim (cases_eq slot first) [
    | inl e ↦ ap (λ (h : Heap). finmap.get h.places q) (housed_here e)
    | inr d ↦ place_of d q ∙ ap (finmap.get heap.places) (swap_other slot first d q c b)
  ]

  -- and the order of use, in which the others stand as they did
  pub order_there : without first housed.order ≡ without slot heap.order
  order_there = elim (cases_eq slot first) [
    | inl e ↦ ap (λ (h : Heap). without first h.order) (housed_here e) ∙ ap (λ k. without k heap.order) (sym e)
    | inr d ↦ ap (λ (h : Heap). without first h.order) (housed_there d) ∙ order_moved slot first d heap sound (free_there d)
  ]

  -- Its attributes.
  abbrev pub left : C.FinMap nat_cmp Attributes
  left = finmap.remove old.attributes slot

  pub had : (a : Attributes) × (finmap.get old.attributes slot ≡ Some a)
  had = turn (finmap.get old.attributes slot) refl (has_attributes old is slot o there)
    where
      turn : (p : Option Attributes) → finmap.get old.attributes slot ≡ p → is_some p ≡ true → (a : Attributes) × (finmap.get old.attributes slot ≡ Some a)
      turn None e t = absurd (false≢true t)
      turn (Some a) e t = (a, e)

  abbrev pub given : Attributes
  given = record had.0 { slots = slots_for n }

  pub run_is : C.with_run old.attributes slot first (slots_for n) ≡ finmap.insert left first given
  run_is = ap (λ p. elim p as (λ _. C.FinMap nat_cmp Attributes) [ Some a ↦ finmap.insert left first (record a { slots = slots_for n }) | None ↦ old.attributes ]) had.1

  -- a slot that has no owner has none once a run is gone, and neither have the slots of that run
  abbrev IsLeft : ℕ → Type 0
  IsLeft s = (C.FIRST_SLOT ≤ s) × (s < C.FIRST_SLOT + old.slots) × (C.owner_of left s ≡ None)

  free_left : (s : ℕ) → C.IsFreeSlot old s → IsLeft s
  free_left s free = (free.0.0, free.0.1, M.none_owns left s (λ q lies. M.no_owner old.attributes s free.1 q (M.was_in old.attributes slot q s lies)))

  own_left : (s : ℕ) → IsIn old.attributes s slot → IsLeft s
  own_left s own =
      let run : IsRun old.slots slot had.0 = subst (λ p. IfSome p (IsRun old.slots slot)) had.1 (is.runs.each slot) in (
        omega (arith, run.1, own.0),
        omega (arith, run.2, own.1, M.slots_of old.attributes slot had.0 had.1),
        M.none_owns left s (λ q lies. M.not_gone old.attributes slot q s lies (M.one_owner old.attributes old.slots is.runs s q slot (M.was_in old.attributes slot q s lies) own)),
      )

  run_left : (k : ℕ) → k < slots_for n → IsLeft (first + k)
  run_left k below = elim gets [
    | inl here ↦ subst (λ f. IsLeft (f + k)) (sym here.1) (at_home here.0)
    | inr goes ↦ free_left (first + k) (goes.2 k below)
  ]
    where
      at_home : C.CanExtend old slot (slots_for n) → IsLeft (slot + k)
      at_home extends = elim (C.cases_Bool (C.nat_lt k (slots_at old.attributes slot))) [
        | inl t ↦ own_left (slot + k) (omega arith, omega (arith, C.ltb-true k (slots_at old.attributes slot) t))
        | inr f ↦
            let g : slots_at old.attributes slot ≤ k = C.ltb-false k (slots_at old.attributes slot) f in
            let at : slot + slots_at old.attributes slot + (k - slots_at old.attributes slot) ≡ slot + k = omega (arith, g) in
            subst IsLeft at (free_left _ (extends (k - slots_at old.attributes slot) (omega (arith, below, g))))
      ]

  -- as many slots as the new bytes need
  new_sized : (p : Option Object) → IsSomeAnd p (IsResized options.zero n o) → IsSized (slots_for n) (bytes_in p)
  new_sized None h = absurd h
  new_sized (Some p) h = by_bytes p.bytes h.bytes
    where
      by_bytes : (b : Option (List ℕ)) → IsSomeAnd b (C.AreResized options.zero n (C.unwrap_or o.bytes [])) → IsSized (slots_for n) b
      by_bytes None h = tt
      by_bytes (Some bytes) h = ap slots_for (sym h.long)

  -- and no module owns it
  owned_sized : (p : Option Owned) → IfSome p (λ (o : Owned). o.size ≡ n) → IfSome p (λ (o : Owned). slots_for n ≡ slots_for o.size)
  owned_sized None own = tt
  owned_sized (Some o) own = ap slots_for (sym own)

  pub anew_handles : IfSome (owned_at old slot) (λ (owned : Owned). owned.size ≡ n) → AreHandles (record old { heap = housed; attributes = C.with_run old.attributes slot first (slots_for n) })
  anew_handles own = subst (λ m. AreHandles (record old { heap = housed; attributes = m })) (sym run_is) (record {
    heap = housed_heap;
    low = housed_range.0 ∙ keeps.low ∙ is.low;
    grain = housed_range.2 ∙ keeps.grain ∙ is.grain;
    few = is.few;
    runs = M.runs_with old.slots left (M.runs_without old.slots old.attributes is.runs slot) first given (M.some_slots n) (owned_sized had.0.owned (subst (λ p. IfSome (owned_in p) (λ (owned : Owned). owned.size ≡ n)) had.1 own)) run_left;
    attributed = λ q. elim (cases_eq q first) [
      | inl e ↦ ap is_some (inserted_here left first given q e) ∙ sym (ap is_some (ap (object_at housed) e ∙ housed_first) ∙ some_there (object_at heap slot) keeps.object)
      | inr c ↦ elim (cases_eq q slot) [
        | inl e ↦ ap is_some (inserted_other left first given q c ∙ taken_here old.attributes slot q e) ∙ sym (ap is_some (ap (object_at housed) e ∙ housed_old (λ f. c (e ∙ f))))
        | inr b ↦ ap is_some (inserted_other left first given q c ∙ taken_other old.attributes slot q b) ∙ is.attributed q ∙ sym (ap is_some (housed_other q c b) ∙ (kept q b).0)
      ]
    ];
    sized = λ q. elim (cases_eq q first) [
      | inl e ↦ sized_is (M.slots_with left first given q e) (ap bytes_in (ap (object_at housed) e ∙ housed_first)) (new_sized (object_at heap slot) keeps.object)
      | inr c ↦ elim (cases_eq q slot) [
        | inl e ↦ sized_is refl (ap bytes_in (ap (object_at housed) e ∙ housed_old (λ f. c (e ∙ f)))) tt
        | inr b ↦ sized_is (M.slots_beside left first given q c ∙ M.slots_left old.attributes slot q b) (ap bytes_in (housed_other q c b)) (kept q b).1
      ]
    ];
  })
    where
      some_there : (p : Option Object) → IsSomeAnd p (IsResized options.zero n o) → is_some p ≡ true
      some_there None h = absurd h
      some_there (Some p) h = refl
