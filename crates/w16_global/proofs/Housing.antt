-- An object that has another run of slots: what its selectors and those of the others say.
use Rattle.w16_global.proofs
use proofs.Common as C
use proofs.Told as M
use proofs.Common.{◌≡◌, ◌≢◌, ℕ, ◌+◌, ◌-◌, ◌<◌, ◌≤◌, ◌⊎◌, ◌==◌, if◌then◌else◌, cond, inl, inr, Bool, true, false, List, get_or, map, Option, Some, None, option_map, is_some, refl, sym, ap, ◌∙◌, subst, arith, false≢true, cases_eq, cases_Bool, eq-eqb, ne_eqb, nat_cmp, FinMap, Attributes}
use proofs.Common.{FIRST_SLOT, Heap, Object, object_at, bytes_at, bytes_in, rekeyed, rehoused, slots_at, HasSize, attributes_in, is_in_run, kind_for, kind_in, owner_in, says, slots_in}
use proofs.Owners.{attributes_at, free_selector, labelled, nothing}
use proofs.{Described.same_described, Joined.others_labelled, Told.is_in}
use Rattle.w16_model.specs.{Law.AreRuns, Handles.owner_of, declared.RoomOptions.RoomOptions}
use Rattle.w16_model.proofs.{Rehoused.rekeyed_at, Rehoused.swap_to, Rehoused.swap_other, Runs.runs_without}
use Rattle.std.specs.FinMap as finmap
use Rattle.w16_selectors.specs.Descriptors as selectors

-- A map with what one slot has under another, which had nothing.
module _ {X : Type 0} (m : FinMap nat_cmp X) (slot first : ℕ) (free : first ≢ slot → finmap.get m first ≡ None) where
  abbrev pub moved_map : FinMap nat_cmp X
  moved_map = cond (slot == first) m (rekeyed m slot first)

  pub key_first : finmap.get moved_map first ≡ finmap.get m slot
  key_first = elim (cases_eq slot first) [
    | inl e ↦ ap (λ b. finmap.get (cond b m (rekeyed m slot first)) first) (eq-eqb slot first e) ∙ ap (finmap.get m) (sym e)
    | inr d ↦ ap (λ b. finmap.get (cond b m (rekeyed m slot first)) first) (ne_eqb slot first d) ∙ rekeyed_at slot first d m (free (λ e. d (sym e))) first ∙ ap (finmap.get m) (swap_to slot first d first refl)
  ]

  pub key_other : (q : ℕ) → q ≢ first → q ≢ slot → finmap.get moved_map q ≡ finmap.get m q
  key_other q c b = elim (cases_eq slot first) [
    | inl e ↦ ap (λ b. finmap.get (cond b m (rekeyed m slot first)) q) (eq-eqb slot first e)
    | inr d ↦ ap (λ b. finmap.get (cond b m (rekeyed m slot first)) q) (ne_eqb slot first d) ∙ rekeyed_at slot first d m (free (λ e. d (sym e))) q ∙ ap (finmap.get m) (swap_other slot first d q c b)
  ]

module _ (heap : Heap) (is : C.IsHeap heap) (slot first : ℕ) (nobody : first ≢ slot → object_at heap first ≡ None) where
  no_place : first ≢ slot → finmap.get heap.places first ≡ None
  no_place d = nothing (finmap.get heap.places first) (is.at_bytes first ∙ ap (λ p. is_some (bytes_in p)) (nobody d))

  objects_are : (rehoused heap slot first).objects ≡ moved_map heap.objects slot first nobody
  objects_are = turn (slot == first)
    where
      turn : (b : Bool) → (cond b heap (record heap { objects = rekeyed heap.objects slot first; places = rekeyed heap.places slot first; order = map (λ q. if q == slot then first else q) heap.order })).objects ≡ cond b heap.objects (rekeyed heap.objects slot first)
      turn true = refl
      turn false = refl

  places_are : (rehoused heap slot first).places ≡ moved_map heap.places slot first no_place
  places_are = turn (slot == first)
    where
      turn : (b : Bool) → (cond b heap (record heap { objects = rekeyed heap.objects slot first; places = rekeyed heap.places slot first; order = map (λ q. if q == slot then first else q) heap.order })).places ≡ cond b heap.places (rekeyed heap.places slot first)
      turn true = refl
      turn false = refl

  -- the object is there as it was
  pub housed_bytes : bytes_at (rehoused heap slot first) first ≡ bytes_at heap slot
  housed_bytes = ap (λ (m : FinMap nat_cmp Object). bytes_in (finmap.get m first)) objects_are ∙ ap bytes_in (key_first heap.objects slot first nobody)

  pub housed_place : finmap.get (rehoused heap slot first).places first ≡ finmap.get heap.places slot
  housed_place = ap (λ (m : FinMap nat_cmp ℕ). finmap.get m first) places_are ∙ key_first heap.places slot first no_place

  -- and so is each other one
  module _ (q : ℕ) (c : q ≢ first) (b : q ≢ slot) where
    object_other : object_at (rehoused heap slot first) q ≡ object_at heap q
    object_other = ap (λ (m : FinMap nat_cmp Object). finmap.get m q) objects_are ∙ key_other heap.objects slot first nobody q c b

    pub place_other : finmap.get (rehoused heap slot first).places q ≡ finmap.get heap.places q
    place_other = ap (λ (m : FinMap nat_cmp ℕ). finmap.get m q) places_are ∙ key_other heap.places slot first no_place q c b

    pub bytes_other : bytes_at (rehoused heap slot first) q ≡ bytes_at heap q
    bytes_other = ap bytes_in object_other

    pub says_other : (kind : C.SelKind) (number : ℕ) → says (rehoused heap slot first) kind number q ≡ says heap kind number q
    says_other kind number = same_described kind number heap (rehoused heap slot first) q object_other place_other

-- The slots that an object gets, and the attributes and selectors then.
module _ {h : C.Holding} {xs : List (Option Attributes)} {t : selectors.DescriptorTable} (are : C.AreJoined h xs t) (slot first count : ℕ) (o : Object) (there : object_at h.heap slot ≡ Some o) (some : 0 < count) (options : RoomOptions)
    (gets : C.GetsRun (C.handles_of h xs 0) slot o options count first) where
  -- it has a run
  pub own_run : C.HasRun xs t slot
  own_run q inside = labelled are q ∙ ap (option_map (λ first. (kind_in xs first, q - first))) (M.lies_owner h xs are.handles q slot inside)

  -- each slot of the new one is its own or free
  pub may_have : C.MayHave xs t slot first count
  may_have number below = elim gets [
    | inl here ↦ subst (λ f. (is_in_run slot (slots_in xs slot) (f + number) ≡ true) ⊎ C.IsUntaken t (f + number)) (sym here.1) (elim (cases_Bool (is_in_run slot (slots_in xs slot) (slot + number))) [
      | inl inside ↦ inl inside
      | inr outside ↦ inr (
          let beyond : slots_at (attributes_in xs) slot ≤ number = behind outside in
          let at : slot + slots_at (attributes_in xs) slot + (number - slots_at (attributes_in xs) slot) ≡ slot + number = omega (arith, beyond) in
          subst (C.IsUntaken t) at (free_selector are {m = 0} refl _ (here.0 (number - slots_at (attributes_in xs) slot) (omega (arith, below, beyond)))))
    ])
    | inr goes ↦ inr (free_selector are {m = 0} refl (first + number) (goes.2 number below))
  ]
    where
      behind : is_in_run slot (slots_in xs slot) (slot + number) ≡ false → slots_at (attributes_in xs) slot ≤ number
      behind outside = elim (C.cases_lt number (slots_at (attributes_in xs) slot)) [
        | inl low ↦ absurd (false≢true (sym outside ∙ is_in slot (slots_in xs slot) (slot + number) (omega arith) (let same = M.slots_are h xs are.handles slot in omega (arith, same, low))))
        | inr high ↦ high
      ]

  -- no other object has its new first slot
  pub nobody_there : first ≢ slot → object_at h.heap first ≡ None
  nobody_there d = elim gets [
    | inl here ↦ absurd (d here.1)
    | inr goes ↦ C.unused (C.handles_of h xs 0) are.handles first count some goes.2
  ]

  held : (a : Attributes) × (get_or xs slot None ≡ Some a)
  held = turn (get_or xs slot None) refl (sym (ap is_some (attributes_at xs slot)) ∙ are.handles.attributed slot ∙ ap is_some there)
    where
      turn : (p : Option Attributes) → get_or xs slot None ≡ p → is_some p ≡ true → (a : Attributes) × (get_or xs slot None ≡ Some a)
      turn None e k = absurd (false≢true k)
      turn (Some a) e k = (a, e)

  pub has_attributes : is_some (get_or xs slot None) ≡ true
  has_attributes = ap is_some held.1

  abbrev given_attributes : Attributes
  given_attributes = record held.0 { slots = count }

  module _ (ys : List (Option Attributes)) (ys_at : (q : ℕ) → get_or ys q None ≡ C.attributes_housed xs slot first count q) where
    at_first : (q : ℕ) → q ≡ first → get_or ys q None ≡ Some given_attributes
    at_first q e = ys_at q ∙ ap (λ b. if b then option_map (λ (a : Attributes). record a { slots = count }) (get_or xs slot None) else (if q == slot then None else get_or xs q None)) (eq-eqb q first e)
        ∙ ap (option_map (λ (a : Attributes). record a { slots = count })) held.1

    at_slot : (q : ℕ) → q ≢ first → q ≡ slot → get_or ys q None ≡ None
    at_slot q d e = ys_at q ∙ ap (λ b. if b then option_map (λ (a : Attributes). record a { slots = count }) (get_or xs slot None) else (if q == slot then None else get_or xs q None)) (ne_eqb q first d)
        ∙ ap (λ b. if b then None else get_or xs q None) (eq-eqb q slot e)

    at_other : (q : ℕ) → q ≢ first → q ≢ slot → get_or ys q None ≡ get_or xs q None
    at_other q d c = ys_at q ∙ ap (λ b. if b then option_map (λ (a : Attributes). record a { slots = count }) (get_or xs slot None) else (if q == slot then None else get_or xs q None)) (ne_eqb q first d)
        ∙ ap (λ b. if b then None else get_or xs q None) (ne_eqb q slot c)

    abbrev left : FinMap nat_cmp Attributes
    left = finmap.remove (attributes_in xs) slot

    inserted : attributes_in ys ≡ finmap.insert left first given_attributes
    inserted = C.same_map C.nat_cmp_total C.nat_cmp-IsAntisymmetric (attributes_in ys) (finmap.insert left first given_attributes) (λ q. attributes_at ys q ∙ elim (cases_eq q first) [
      | inl e ↦ at_first q e ∙ sym (C.inserted_here left first given_attributes q e)
      | inr d ↦ elim (cases_eq q slot) [
        | inl e ↦ at_slot q d e ∙ sym (C.inserted_other left first given_attributes q d ∙ C.taken_here (attributes_in xs) slot q e)
        | inr c ↦ at_other q d c ∙ sym (attributes_at xs q) ∙ sym (C.inserted_other left first given_attributes q d ∙ C.taken_other (attributes_in xs) slot q c)
      ]
    ])

    -- so the attributes are the definition's
    pub housed_attributes : attributes_in ys ≡ C.with_run (attributes_in xs) slot first count
    housed_attributes = inserted ∙ sym (ap (λ p. elim p as (λ _. FinMap nat_cmp Attributes) [ Some a ↦ finmap.insert left first (record a { slots = count }) | None ↦ attributes_in xs ]) (attributes_at xs slot ∙ held.1))

    pub housed_sized : count < 256 → (q : ℕ) → HasSize (get_or ys q None)
    housed_sized few q = elim (cases_eq q first) [
      | inl e ↦ subst HasSize (sym (at_first q e)) (few, (subst HasSize held.1 (are.sized slot)).1)
      | inr d ↦ elim (cases_eq q slot) [
        | inl e ↦ subst HasSize (sym (at_slot q d e)) tt
        | inr c ↦ subst HasSize (sym (at_other q d c)) (are.sized q)
      ]
    ]

    module _ (slots : ℕ) (slots_is : slots ≡ h.cap - FIRST_SLOT) (runs : AreRuns slots (attributes_in ys)) where
      abbrev here : ℕ → Bool
      here q = is_in_run first count q

      abbrev before : ℕ → Bool
      before q = is_in_run slot (slots_in xs slot) q

      -- the new run is its own, what is left of the old one is nobody's, and all other slots are whose they were
      owners : (q : ℕ) → (here q ≡ true → owner_in ys q ≡ Some first) × (here q ≡ false → before q ≡ true → owner_in ys q ≡ None) × (here q ≡ false → before q ≡ false → owner_in ys q ≡ owner_in xs q)
      owners q =
          let gone : AreRuns (h.cap - FIRST_SLOT) left = runs_without (h.cap - FIRST_SLOT) (attributes_in xs) are.handles.runs slot in
          let after : AreRuns (h.cap - FIRST_SLOT) (finmap.insert left first given_attributes) = subst (AreRuns (h.cap - FIRST_SLOT)) inserted (subst (λ n. AreRuns n (attributes_in ys)) slots_is runs) in
          let with_it = M.owner_with (h.cap - FIRST_SLOT) left gone first given_attributes unheld after q in
          let without_it = M.owner_without (h.cap - FIRST_SLOT) (attributes_in xs) are.handles.runs slot gone q in
          let same : owner_in ys q ≡ owner_of (finmap.insert left first given_attributes) q = ap (λ m. owner_of m q) inserted in (
            λ t. same ∙ with_it.0 t,
            λ f t. same ∙ with_it.1 f ∙ without_it.0 (old t),
            λ f u. same ∙ with_it.1 f ∙ without_it.1 (old u),
          )
        where
          old : {b : Bool} → before q ≡ b → is_in_run slot (slots_at (attributes_in xs) slot) q ≡ b
          old e = ap (λ n. is_in_run slot n q) (sym (M.slots_are h xs are.handles slot)) ∙ e

          unheld : finmap.get left first ≡ None
          unheld = elim (cases_eq first slot) [
            | inl e ↦ C.taken_here (attributes_in xs) slot first e
            | inr d ↦ C.taken_other (attributes_in xs) slot first d ∙ nothing (finmap.get (attributes_in xs) first) (are.handles.attributed first ∙ ap is_some (nobody_there d))
          ]

      -- another owner is another object
      pub another : (q f : ℕ) → before q ≡ false → owner_in xs q ≡ Some f → (f ≢ first) × (f ≢ slot)
      another q f outside e = (λ same. elim (cases_eq first slot) [ inl mine ↦ not_mine (same ∙ mine) | inr d ↦ false≢true (sym (ap (λ k. is_some (object_at h.heap k)) same ∙ ap is_some (nobody_there d)) ∙ M.owner_there h xs are.handles q f e) ], not_mine)
        where
          not_mine : f ≢ slot
          not_mine same = false≢true (sym outside ∙ M.owner_lies h xs are.handles q slot (e ∙ ap Some same))

      kinds : (q : ℕ) → before q ≡ false → (f : ℕ) → owner_in xs q ≡ Some f → kind_in ys f ≡ kind_in xs f
      kinds q outside f e = let x = another q f outside e in ap kind_for (at_other f x.0 x.1)

      own_kind : kind_in ys first ≡ kind_in xs slot
      own_kind = ap kind_for (at_first first refl) ∙ sym (ap kind_for held.1)

      module _ (u : selectors.DescriptorTable) (housed : C.AreHoused xs t slot first count u) where
        -- the selectors are labelled
        pub housed_labelled : C.AreLabelled ys u
        housed_labelled q = elim (cases_Bool (here q)) [
          | inl inside ↦ housed.taken q inside ∙ sym (ap (option_map (λ first. (kind_in ys first, q - first))) ((owners q).0 inside) ∙ ap (λ k. Some (k, q - first)) own_kind)
          | inr outside ↦ elim (cases_Bool (before q)) [
            | inl mine ↦ ap C.label_of (housed.given q outside mine) ∙ sym (ap (option_map (λ first. (kind_in ys first, q - first))) ((owners q).1 outside mine))
            | inr others ↦ ap C.label_of (housed.kept q outside others) ∙ labelled are q ∙ sym (others_labelled xs ys q ((owners q).2 outside others) (kinds q others))
          ]
        ]

        -- and those of the others say what they said
        pub housed_rest : (q f : ℕ) → owner_in ys q ≡ Some f → f ≢ first → (f ≢ slot) × (kind_in ys f ≡ kind_in xs f) × (C.descriptor_at u q ≡ says h.heap (kind_in xs f) (q - f) f)
        housed_rest q f e other = elim (cases_Bool (here q)) [
          | inl inside ↦ let mine : Some f ≡ Some first = sym e ∙ (owners q).0 inside in absurd (other (let same : f ≡ first = cc in same))
          | inr outside ↦ elim (cases_Bool (before q)) [
            | inl mine ↦ let none : ◌≡◌ {A = Option ℕ} (Some f) None = sym e ∙ (owners q).1 outside mine in cc
            | inr others ↦
                let was : owner_in xs q ≡ Some f = sym ((owners q).2 outside others) ∙ e in
                ((another q f others was).1, kinds q others f was, housed.kept q outside others ∙ are.described q ∙ ap (λ p. elim p as (λ _. Option C.Descriptor) [ None ↦ None | Some first ↦ says h.heap (kind_in xs first) (q - first) first ]) was)
          ]
        ]
