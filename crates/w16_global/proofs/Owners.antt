-- What the selectors say, by the objects in whose runs their slots are.
use Rattle.w16_global.proofs
use proofs.Common as C
use Rattle.std.proofs.lemmas.Bool.{eqb-true}
use proofs.Common.{◌≡◌, ℕ, ◌+◌, ◌-◌, ◌<◌, ◌≤◌, ◌==◌, ◌/◌, inl, inr, ◌&&◌, Bool, true, false, if◌then◌else◌, List, length, get_or, Option, Some, None, option_map, unwrap_or, is_some, refl, sym, ap, ◌∙◌, subst, arith, false≢true, Attributes, FIRST_SLOT, Heap, Handles, Object, object_at}
use proofs.Common.{AreHandles, IsFreeSlot, Part, slots_at, owner_of, part_of_selector, owner_is, All, after_write, descriptor_at, unset, IsUntaken, Descriptor, SelKind, Holding, attributes_in, handles_of, descriptor_for, described, kind_in, label_of, owner_in, says, AreJoined}
use Rattle.w16_model.specs.Law.{IsRun}
use Rattle.w16_global.specs.{Housed.slots_in, Runs.reaching}
use Rattle.std.specs.FinMap as finmap
use Rattle.w16_selectors.specs.Descriptors as selectors

-- none is there where there is no object
pub nothing : {X : Type 0} (o : Option X) → is_some o ≡ false → o ≡ None
nothing None h = refl
nothing (Some x) h = absurd (false≢true (sym h))

-- the handles of what a value shows
pub handles_shown : {shown g : C.Global} → shown ≡ g → shown.handles ≡ g.handles
handles_shown e = ap (λ g. g.handles) e

-- a slot's attributes are those of the list
pub attributes_at : (xs : List (Option Attributes)) (slot : ℕ) → finmap.get (attributes_in xs) slot ≡ get_or xs slot None
attributes_at xs slot = C.get-by_id (λ _ a. a) xs slot ∙ same _
  where
    same : (o : Option Attributes) → option_map (λ a. a) o ≡ o
    same None = refl
    same (Some a) = refl

-- the object whose part with number 0 this is
abbrev pub first_of : Option Part → Option ℕ
first_of p = elim p [ None ↦ None | Some p ↦ if p.number == 0 then Some p.slot else None ]

-- Owners, of any handles.
module _ (w : Handles) (is : AreHandles w) where
  -- one is there
  pub owner_there : (slot first : ℕ) → owner_of w.attributes slot ≡ Some first → is_some (object_at w.heap first) ≡ true
  owner_there slot first e = turn (object_at w.heap first) refl
    where
      turn : (p : Option Object) → object_at w.heap first ≡ p → is_some p ≡ true
      turn (Some o) there = refl
      turn None free =
          let lies = owner_is w.attributes slot first e in
          let none : slots_at w.attributes first ≡ 0 = C.slots_none w.attributes first (nothing (finmap.get w.attributes first) (is.attributed first ∙ ap is_some free)) in
          absurd (omega (arith, lies.0, lies.1, none))

  -- its run is within the slots
  pub run_there : (slot : ℕ) → is_some (object_at w.heap slot) ≡ true → (FIRST_SLOT ≤ slot) × (0 < slots_at w.attributes slot) × (slot + slots_at w.attributes slot ≤ 8192)
  run_there slot there = turn (finmap.get w.attributes slot) refl (is.attributed slot ∙ there) (is.runs.each slot)
    where
      turn : (p : Option Attributes) → finmap.get w.attributes slot ≡ p → is_some p ≡ true → C.IfSome p (IsRun w.slots slot) → (FIRST_SLOT ≤ slot) × (0 < slots_at w.attributes slot) × (slot + slots_at w.attributes slot ≤ 8192)
      turn None e t run = absurd (false≢true t)
      turn (Some a) e t run =
          let many = C.slots_of w.attributes slot a e in
          let few = is.few in
          (run.1, omega (arith, run.0, many), omega (arith, run.2, many, few))

  -- an object owns its first slot
  pub owns_first : (slot : ℕ) → is_some (object_at w.heap slot) ≡ true → owner_of w.attributes slot ≡ Some slot
  owns_first slot there = C.is_owner w.attributes w.slots is.runs slot slot (C.first_in w.slots w.attributes is.runs slot (is.attributed slot ∙ there))

  -- so its first selector is the one with number 0
  pub first_part : (selector : ℕ) → C.slot_of_selector w selector ≡ first_of (part_of_selector w selector)
  first_part selector = turn (selector == C.selector_of (selector / 8)) (owner_of w.attributes (selector / 8)) refl (object_at w.heap (selector / 8)) refl
    where
      numbered : (slot first : ℕ) → owner_of w.attributes slot ≡ Some first → (n : Bool) → (slot - first == 0) ≡ n → (o : Option Object) → object_at w.heap slot ≡ o → ◌≡◌ {A = Option ℕ} (if is_some o then Some slot else None) (if n then Some first else None)
      numbered slot first e false t None free = refl
      numbered slot first e true t None free =
          let low = (owner_is w.attributes slot first e).0 in
          let same : first ≡ slot = omega (arith, low, eqb-true (slot - first) 0 t) in
          absurd (false≢true (sym (ap (λ q. is_some (object_at w.heap q)) same ∙ ap is_some free) ∙ owner_there slot first e))
      numbered slot first e n t (Some o) there =
          let some : Some first ≡ Some slot = sym e ∙ owns_first slot (ap is_some there) in
          let same : first ≡ slot = cc in
          let zero_number : slot - first ≡ 0 = omega (arith, same) in
          ap Some (sym same) ∙ ap (λ b. if b then Some first else None) (sym (C.eq-eqb (slot - first) 0 zero_number) ∙ t)

      turn : (b : Bool) (p : Option ℕ) → owner_of w.attributes (selector / 8) ≡ p → (o : Option Object) → object_at w.heap (selector / 8) ≡ o
          → ◌≡◌ {A = Option ℕ} (if is_some o && b then Some (selector / 8) else None) (first_of (if b then option_map (λ slot. record { slot = slot; number = selector / 8 - slot }) p else None))
      turn false p e None there = refl
      turn false p e (Some o) there = refl
      turn true None e None there = refl
      turn true None e (Some o) there = absurd (false≢true (ap is_some (sym e ∙ owns_first (selector / 8) (ap is_some there))))
      turn true (Some first) e None there = numbered (selector / 8) first e (selector / 8 - first == 0) refl None there
      turn true (Some first) e (Some o) there = numbered (selector / 8) first e (selector / 8 - first == 0) refl (Some o) there

-- a selector says what its object holds, and which of the object's selectors it is
pub label_for : (heap : Heap) (holds : SelKind) (number first : ℕ) (o : Object) → ((descriptor_for heap holds number first o).kind ≡ holds) × ((descriptor_for heap holds number first o).number ≡ number)
label_for heap holds number first o = of_bytes _
  where
    of_bytes : (b : Option (List ℕ)) → ((descriptor_for heap holds number first (record o { bytes = b })).kind ≡ holds) × ((descriptor_for heap holds number first (record o { bytes = b })).number ≡ number)
    of_bytes None = (refl, refl)
    of_bytes (Some bytes) = (refl, refl)

-- a heap that is the same to selectors
pub same_said : (xs : List (Option Attributes)) (heap new : Heap) → ((holds : SelKind) (number first : ℕ) → says new holds number first ≡ says heap holds number first) → (q : ℕ) → described new xs q ≡ described heap xs q
same_said xs heap new same q = of_owner _
  where
    of_owner : (p : Option ℕ) → ◌≡◌ {A = Option Descriptor} (elim p [ None ↦ None | Some first ↦ says new (kind_in xs first) (q - first) first ]) (elim p [ None ↦ None | Some first ↦ says heap (kind_in xs first) (q - first) first ])
    of_owner None = refl
    of_owner (Some first) = same _ _ first

-- A selector says no more than where its object's bytes begin, and how many they are.
abbrev pub size_in : Option Object → Option (Option ℕ)
size_in p = option_map (λ (o : Object). option_map (length {A = ℕ}) o.bytes) p

says_by : (heap : Heap) (holds : SelKind) (number first : ℕ) → says heap holds number first
    ≡ option_map (λ s. elim s as (λ _. Descriptor) [ None ↦ unset holds number | Some size ↦ reaching holds (unwrap_or (finmap.get heap.places first) 0) size number ]) (size_in (object_at heap first))
says_by heap holds number first = of_object _
  where
    told : Option ℕ → Descriptor
    told s = elim s [ None ↦ unset holds number | Some size ↦ reaching holds (unwrap_or (finmap.get heap.places first) 0) size number ]

    of_bytes : (o : Object) (b : Option (List ℕ)) → descriptor_for heap holds number first (record o { bytes = b }) ≡ told (option_map length b)
    of_bytes o None = refl
    of_bytes o (Some bytes) = refl

    of_object : (p : Option Object) → option_map (descriptor_for heap holds number first) p ≡ option_map told (size_in p)
    of_object None = refl
    of_object (Some o) = ap Some (of_bytes o _)

pub said_same : (heap new : Heap) (holds : SelKind) (number first : ℕ) → size_in (object_at new first) ≡ size_in (object_at heap first) → finmap.get new.places first ≡ finmap.get heap.places first → says new holds number first ≡ says heap holds number first
said_same heap new holds number first size place =
    says_by new holds _ first
    ∙ (λ i. option_map (λ s. elim s as (λ _. Descriptor) [ None ↦ unset holds number | Some size ↦ reaching holds (unwrap_or (place i) 0) size number ]) (size i))
    ∙ sym (says_by heap holds _ first)

-- an object has a slot in its run, and what the slot's selector says
pub record Has (holding : Holding) (attributes : List (Option Attributes)) (table : selectors.DescriptorTable) (slot first : ℕ) : Type 0 where
  pub low : first ≤ slot
  pub high : slot < first + slots_at (attributes_in attributes) first
  pub object : Object
  pub there : object_at holding.heap first ≡ Some object
  pub descriptor : Descriptor
  pub said : descriptor_at table slot ≡ Some descriptor
  pub is : descriptor ≡ descriptor_for holding.heap (kind_in attributes first) (slot - first) first object
  pub kind : descriptor.kind ≡ kind_in attributes first
  pub number : descriptor.number ≡ slot - first

module _ {h : Holding} {xs : List (Option Attributes)} {t : selectors.DescriptorTable} (are : AreJoined h xs t) where
  abbrev owned_says : ℕ → Option ℕ → Option Descriptor
  owned_says slot p = elim p [ None ↦ None | Some first ↦ says h.heap (kind_in xs first) (slot - first) first ]

  -- a slot with an owner
  pub owned : (slot first : ℕ) → owner_in xs slot ≡ Some first → Has h xs t slot first
  owned slot first e = of_object (object_at h.heap first) refl (owner_there (handles_of h xs 0) are.handles slot first e)
    where
      of_object : (p : Option Object) → object_at h.heap first ≡ p → is_some p ≡ true → Has h xs t slot first
      of_object None free some = absurd (false≢true some)
      of_object (Some o) there some =
          let lies = owner_is (attributes_in xs) slot first e in
          let label = label_for h.heap (kind_in xs first) (slot - first) first o in record {
            low = lies.0;
            high = lies.1;
            object = o;
            there = there;
            descriptor = descriptor_for h.heap (kind_in xs first) (slot - first) first o;
            said = are.described slot ∙ ap (owned_says slot) e ∙ ap (option_map (descriptor_for h.heap (kind_in xs first) (slot - first) first)) there;
            is = refl;
            kind = label.0;
            number = label.1;
          }

  -- and one without
  pub unowned : (slot : ℕ) → owner_in xs slot ≡ None → descriptor_at t slot ≡ None
  unowned slot e = are.described slot ∙ ap (owned_says slot) e

  -- What holds of both, by what a selector names and reaches.
  pub by_owner : (selector : ℕ) (P : Option Part → Option Descriptor → Type 0) → P None None
      → ((first : ℕ) (o : Has h xs t (selector / 8) first) → P (Some (record { slot = first; number = selector / 8 - first })) (Some o.descriptor)) → P (part_of_selector (handles_of h xs 0) selector) (C.descriptor_of t selector)
  by_owner selector P none some = turn (selector == C.selector_of (selector / 8)) (owner_in xs (selector / 8)) refl
    where
      turn : (b : Bool) (p : Option ℕ) → owner_in xs (selector / 8) ≡ p → P (if b then option_map (λ slot. record { slot = slot; number = selector / 8 - slot }) p else None) (if b then descriptor_at t (selector / 8) else None)
      turn false p e = none
      turn true None e = subst (P None) (sym (unowned (selector / 8) e)) none
      turn true (Some first) e = let o = owned (selector / 8) first e in subst (P (Some (record { slot = first; number = selector / 8 - first }))) (sym o.said) (some first o)

  -- each selector is labelled
  pub labelled : (slot : ℕ) → label_of (descriptor_at t slot) ≡ C.label_in xs slot
  labelled slot = of_owner (owner_in xs slot) refl
    where
      of_owner : (p : Option ℕ) → owner_in xs slot ≡ p → label_of (descriptor_at t slot) ≡ C.label_in xs slot
      of_owner None e = ap label_of (unowned slot e) ∙ sym (ap (option_map (λ first. (kind_in xs first, slot - first))) e)
      of_owner (Some first) e =
          let o = owned slot first e in
          let kind = o.kind in
          let number = o.number in
          ap label_of o.said ∙ (λ i. Some (kind i, number i)) ∙ sym (ap (option_map (λ first. (kind_in xs first, slot - first))) e)

  -- where nothing but the heap changes, and that not for selectors
  pub joined_same : (new : Holding) → new.cap ≡ h.cap → AreHandles (handles_of new xs 0) → ((holds : SelKind) (number first : ℕ) → says new.heap holds number first ≡ says h.heap holds number first) → AreJoined new xs t
  joined_same new cap handles same = record {
    handles = handles;
    described = λ q. are.described q ∙ sym (same_said xs h.heap new.heap same q);
    sized = are.sized;
    attributes_many = are.attributes_many ∙ sym cap;
    selectors_many = are.selectors_many ∙ sym cap;
    some = subst (λ n. FIRST_SLOT ≤ n) (sym cap) are.some;
  }

  -- as where bytes are written over others
  pub written_joined : (slot at : ℕ) (slice bytes : List ℕ) (o : Object) → object_at h.heap slot ≡ Some o → o.bytes ≡ Some bytes → at + length slice ≤ length bytes → All (λ b. b < 256) slice → (count : ℕ)
      → AreJoined (record h { heap = after_write h.heap slot at slice; written = count }) xs t
  written_joined slot at slice bytes o there has fits all count = joined_same (record h { heap = after_write h.heap slot at slice; written = count }) refl
      (C.other_handles (handles_of h xs 0) are.handles (after_write h.heap slot at slice)
      (C.written_heap h.heap are.handles.heap slot o there bytes has at slice fits all) refl refl
      (C.same_updated h.heap.objects slot put) (C.written_sized (handles_of h xs 0) are.handles slot at slice o bytes
      there has fits))
      (λ holds number first. said_same h.heap (after_write h.heap slot at slice) holds number first (elim (C.cases_eq first slot) [
        | inl e ↦ subst (λ q. size_in (object_at (after_write h.heap slot at slice) q) ≡ size_in (object_at h.heap q)) (sym e) here
        | inr n ↦ ap size_in (C.get-update_other h.heap.objects slot put first n)
      ]) refl)
    where
      put : Object → Object
      put o = record o { bytes = option_map (λ (b : List ℕ). C.put_part b at slice) o.bytes }

      here : size_in (object_at (after_write h.heap slot at slice) slot) ≡ size_in (object_at h.heap slot)
      here = ap size_in (C.get-update_same h.heap.objects slot put ∙ ap (option_map put) there)
          ∙ ap (λ (b : Option (List ℕ)). Some (option_map (length {A = ℕ}) (option_map (λ (b : List ℕ). C.put_part b at slice) b))) has
          ∙ ap (λ k. Some (Some k)) (C.length-put_part bytes at slice fits)
          ∙ sym (ap size_in there ∙ ap (λ (b : Option (List ℕ)). Some (option_map (length {A = ℕ}) b)) has)

  module _ {m : ℕ} {w : Handles} (shown : handles_of h xs m ≡ w) where
    -- a slot is free just where its selector is
    pub free_slot : (slot : ℕ) → IsUntaken t slot → IsFreeSlot w slot
    free_slot slot free =
        let many = are.selectors_many in
        let some = are.some in
        subst (λ v. IsFreeSlot v slot) shown ((free.0, (let below = free.1 in omega arith)), of_owner (owner_in xs slot) refl)
      where
        of_owner : (p : Option ℕ) → owner_in xs slot ≡ p → owner_in xs slot ≡ None
        of_owner None e = e
        of_owner (Some first) e = absurd (false≢true (ap is_some (sym free.2 ∙ (owned slot first e).said)))

    pub free_selector : (slot : ℕ) → IsFreeSlot w slot → IsUntaken t slot
    free_selector slot known =
        let free : IsFreeSlot (handles_of h xs m) slot = subst (λ v. IsFreeSlot v slot) (sym shown) known in
        let many = are.selectors_many in
        let some = are.some in
        (free.0.0, (let below = free.0.1 in omega arith), unowned slot free.1)

    -- the handles, and the attributes by slot, are those of the value
    pub are_handles : AreHandles w
    are_handles = subst AreHandles shown (C.moved_handles (handles_of h xs 0) are.handles m)

    pub attributes_shown : (slot : ℕ) → get_or xs slot None ≡ finmap.get w.attributes slot
    attributes_shown slot = sym (attributes_at xs slot) ∙ ap (λ (v : Handles). finmap.get v.attributes slot) shown

    pub slots_shown : (slot : ℕ) → slots_in xs slot ≡ slots_at w.attributes slot
    slots_shown slot = ap (λ p. unwrap_or (option_map (λ (a : Attributes). a.slots) p) 0) (attributes_shown slot)

    -- and so are runs of them
    pub free_run : (first count : ℕ) → selectors.IsFreeRun t first count → C.IsFreeRun w first count
    free_run first count free k below = free_slot (first + k) (free.1 k below)

    pub free_selectors : (first count : ℕ) → 0 < count → C.IsFreeRun w first count → selectors.IsFreeRun t first count
    free_selectors first count some free =
        let begin : IsUntaken t (first + 0) = free_selector (first + 0) (free 0 some) in
        (let above = begin.0 in omega arith, λ k below. free_selector (first + k) (free k below))

    -- what a selector reaches, by the descriptor that it names
    pub part_known : (selector : ℕ) (r : Option Descriptor) → r ≡ C.descriptor_of t selector → part_of_selector w selector ≡ option_map (λ (d : Descriptor). record { slot = selector / 8 - d.number; number = d.number }) r
    part_known selector r is = subst (λ v. part_of_selector v selector ≡ option_map told r) shown
        (by_owner selector (λ p d. p ≡ option_map told d) refl (λ first o.
        let low = o.low in
        let number = o.number in
        let slot : first ≡ selector / 8 - o.descriptor.number = omega arith in
        λ i. Some (record { slot = slot i; number = sym number i })) ∙ ap (option_map told) (sym is))
      where
        told : Descriptor → Part
        told d = record { slot = selector / 8 - d.number; number = d.number }
