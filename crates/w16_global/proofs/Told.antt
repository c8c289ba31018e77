-- Whose a slot is, and selectors that say of their objects what they have to.
use Rattle.w16_global.proofs
use proofs.Common as C
use proofs.Common.{◌≡◌, ◌≢◌, ℕ, ◌+◌, ◌-◌, ◌<◌, ◌≤◌, ◌==◌, ◌||◌, if◌then◌else◌, inl, inr, Bool, true, false, List, length, Option, Some, None, option_map, is_some, unwrap_or, refl, sym, ap, ◌∙◌, subst, arith, nat_tests, false≢true, Attributes, Heap, Object, object_at, bytes_at, IsIn}
use proofs.Common.{is_owner, none_owns, owner_is, slots_at, slots_for, descriptor_at, kind_at, number_at, unset, Descriptor, SelKind, handles_of, attributes_in, AreLabelled, described, in_run, is_in_run, kind_in, label_of, owner_in, reaching, says, slots_in, told}
use proofs.{Described.made_here, Owners.attributes_at}
use Rattle.w16_model.specs.{Handles.owner_of, Law.AreRuns}
use Rattle.std.specs.FinMap as finmap
use Rattle.w16_selectors.specs.Descriptors as selectors

-- Whose a slot is.

-- a slot lies in a run just where the test says so
pub lies_in : (first count slot : ℕ) → is_in_run first count slot ≡ true → (first ≤ slot) × (slot < first + count)
lies_in first count slot t = (grind (arith, nat_tests, t), grind (arith, nat_tests, t))

pub is_in : (first count slot : ℕ) → first ≤ slot → slot < first + count → is_in_run first count slot ≡ true
is_in first count slot low high = grind (arith, nat_tests)

-- the slots of an object that comes are its own, and all others are whose they were
pub owner_with : (slots : ℕ) (m : C.FinMap C.nat_cmp Attributes) → AreRuns slots m → (first : ℕ) (a : Attributes) → finmap.get m first ≡ None → AreRuns slots (finmap.insert m first a) → (q : ℕ)
    → (is_in_run first a.slots q ≡ true → owner_of (finmap.insert m first a) q ≡ Some first) × (is_in_run first a.slots q ≡ false → owner_of (finmap.insert m first a) q ≡ owner_of m q)
owner_with slots m are first a free after q = (
  λ t. let lies = lies_in first a.slots q t in is_owner _ slots after q first (lies.0, subst (λ n. q < first + n) (sym (C.slots_with m first a first refl)) lies.1),
  λ f. turn f _ refl,
)
  where
    turn : is_in_run first a.slots q ≡ false → (p : Option ℕ) → owner_of m q ≡ p → owner_of (finmap.insert m first a) q ≡ p
    turn f (Some g) e =
        let lies = owner_is m q g e in
        let other : g ≢ first = λ same. let none = C.slots_none m g (ap (finmap.get m) same ∙ free) in omega (arith, lies.0, lies.1, none) in
        is_owner _ slots after q g (lies.0, subst (λ n. q < g + n) (sym (C.slots_beside m first a g other)) lies.1)
    turn f None e = none_owns _ q (λ g lies. elim (C.cases_eq g first) [
      | inl same ↦ false≢true (sym f ∙ is_in first a.slots q (subst (λ k. k ≤ q) same lies.0) (let many = C.slots_with m first a g same in omega (arith, lies.1, many, same)))
      | inr other ↦ C.no_owner m q e g (lies.0, subst (λ n. q < g + n) (C.slots_beside m first a g other) lies.1)
    ])

-- those of one that goes are nobody's
pub owner_without : (slots : ℕ) (m : C.FinMap C.nat_cmp Attributes) → AreRuns slots m → (gone : ℕ) → AreRuns slots (finmap.remove m gone) → (q : ℕ)
    → (is_in_run gone (slots_at m gone) q ≡ true → owner_of (finmap.remove m gone) q ≡ None) × (is_in_run gone (slots_at m gone) q ≡ false → owner_of (finmap.remove m gone) q ≡ owner_of m q)
owner_without slots m are gone after q = (
  λ t. none_owns _ q (λ g lies. C.not_gone m gone g q lies (C.one_owner m slots are q g gone (C.was_in m gone g q lies) (lies_in gone _ q t))),
  λ f. turn f _ refl,
)
  where
    turn : is_in_run gone (slots_at m gone) q ≡ false → (p : Option ℕ) → owner_of m q ≡ p → owner_of (finmap.remove m gone) q ≡ p
    turn f (Some g) e =
        let lies = owner_is m q g e in
        let other : g ≢ gone = λ same. false≢true (sym f ∙ is_in gone _ q (subst (λ k. k ≤ q) same lies.0) (subst (λ k. q < k + slots_at m k) same lies.1)) in
        is_owner _ slots after q g (lies.0, subst (λ n. q < g + n) (sym (C.slots_left m gone g other)) lies.1)
    turn f None e = none_owns _ q (λ g lies. C.no_owner m q e g (C.was_in m gone g q lies))

-- What a selector says.

-- a descriptor's kind and number, by its label
pub labelled : (d : Option Descriptor) (kind : SelKind) (number : ℕ) → label_of d ≡ Some (kind, number) → (is_some d ≡ true) × (C.kind_of d ≡ kind) × (C.number_of d ≡ number)
labelled None kind number e = cc
labelled (Some d) kind number e = let same : (d.kind, d.number) ≡ (kind, number) = cc in (refl, ap (λ (p : SelKind × ℕ). p.0) same, ap (λ (p : SelKind × ℕ). p.1) same)

pub unlabelled : (d : Option Descriptor) → label_of d ≡ None → d ≡ None
unlabelled None e = refl
unlabelled (Some d) e = cc

-- an object that is there has selectors, with its kind and their numbers
pub says_label : (heap : Heap) (kind : SelKind) (number first : ℕ) → is_some (object_at heap first) ≡ true → label_of (says heap kind number first) ≡ Some (kind, number)
says_label heap kind number first there = of_object _ there
  where
    of_bytes : (b : Option (List ℕ)) → label_of (Some (elim b as (λ _. Descriptor) [ None ↦ unset kind number | Some bytes ↦ reaching kind (unwrap_or (finmap.get heap.places first) 0) (length bytes) number ])) ≡ Some (kind, number)
    of_bytes None = refl
    of_bytes (Some bytes) = refl

    of_object : (p : Option Object) → is_some p ≡ true → label_of (option_map (λ o. elim o.bytes as (λ _. Descriptor) [ None ↦ unset kind number | Some bytes ↦ reaching kind (unwrap_or (finmap.get heap.places first) 0) (length bytes) number ]) p) ≡ Some (kind, number)
    of_object None t = absurd (false≢true t)
    of_object (Some o) t = of_bytes _

-- one without bytes reaches nothing
pub says_absent : (heap : Heap) (kind : SelKind) (number first : ℕ) → is_some (object_at heap first) ≡ true → bytes_at heap first ≡ None → says heap kind number first ≡ Some (unset kind number)
says_absent heap kind number first there gone = of_object _ there gone
  where
    of_object : (p : Option Object) → is_some p ≡ true → C.bytes_in p ≡ None → option_map (λ o. elim o.bytes as (λ _. Descriptor) [ None ↦ unset kind number | Some bytes ↦ reaching kind (unwrap_or (finmap.get heap.places first) 0) (length bytes) number ]) p ≡ Some (unset kind number)
    of_object None t e = absurd (false≢true t)
    of_object (Some o) t e = ap (λ b. Some (elim b as (λ _. Descriptor) [ None ↦ unset kind number | Some bytes ↦ reaching kind (unwrap_or (finmap.get heap.places first) 0) (length bytes) number ])) e

-- Selectors by the objects whose they are.
module _ (h : C.Holding) (xs : List (Option Attributes)) (is : C.AreHandles (handles_of h xs 0)) where
  -- so many slots an object has
  pub slots_are : (first : ℕ) → slots_in xs first ≡ slots_at (attributes_in xs) first
  slots_are first = ap (λ p. unwrap_or (option_map (λ (a : Attributes). a.slots) p) 0) (sym (attributes_at xs first))

  -- whose slot it is has a run there, and is an object
  pub owner_lies : (q first : ℕ) → owner_in xs q ≡ Some first → is_in_run first (slots_in xs first) q ≡ true
  owner_lies q first e = let lies = owner_is (attributes_in xs) q first e in is_in first (slots_in xs first) q lies.0 (subst (λ n. q < first + n) (sym (slots_are first)) lies.1)

  pub lies_owner : (q first : ℕ) → is_in_run first (slots_in xs first) q ≡ true → owner_in xs q ≡ Some first
  lies_owner q first t = let lies = lies_in first (slots_in xs first) q t in is_owner (attributes_in xs) (handles_of h xs 0).slots is.runs q first (lies.0, subst (λ n. q < first + n) (slots_are first) lies.1)

  pub owner_there : (q first : ℕ) → owner_in xs q ≡ Some first → is_some (object_at h.heap first) ≡ true
  owner_there q first e = sym (is.attributed first) ∙ turn (finmap.get (attributes_in xs) first) refl
    where
      turn : (p : Option Attributes) → finmap.get (attributes_in xs) first ≡ p → is_some p ≡ true
      turn None none = let zero_slots = C.slots_none (attributes_in xs) first none in let lies = owner_is (attributes_in xs) q first e in absurd (omega (arith, lies.0, lies.1, zero_slots))
      turn (Some a) some = refl

  -- an object that stands somewhere has a slot
  pub placed_below : (first : ℕ) → is_some (finmap.get h.heap.places first) ≡ true → first < C.FIRST_SLOT + (handles_of h xs 0).slots
  placed_below first stands = (C.numbered (handles_of h xs 0) is first (turn (object_at h.heap first) (is.heap.at_bytes first) stands)).1
    where
      turn : (p : Option Object) → is_some (finmap.get h.heap.places first) ≡ is_some (C.bytes_in p) → is_some (finmap.get h.heap.places first) ≡ true → is_some p ≡ true
      turn None e t = absurd (false≢true (sym e ∙ t))
      turn (Some o) e t = refl

  -- each slot of an object that is labelled has a descriptor, with its kind and number
  pub labels : (t : selectors.DescriptorTable) → AreLabelled xs t → (q first : ℕ) → owner_in xs q ≡ Some first → (is_some (descriptor_at t q) ≡ true) × (kind_at t q ≡ kind_in xs first) × (number_at t q ≡ q - first)
  labels t are q first e = labelled (descriptor_at t q) (kind_in xs first) (q - first) (are q ∙ ap (option_map (λ first. (kind_in xs first, q - first))) e)

  -- so has each slot of a run that is labelled
  pub run_known : (t : selectors.DescriptorTable) → AreLabelled xs t → (first number : ℕ) → number < slots_in xs first → (is_some (descriptor_at t (first + number)) ≡ true) × (number_at t (first + number) ≡ number)
  run_known t are first number below =
      let l = labels t are (first + number) first (lies_owner (first + number) first (is_in first (slots_in xs first) (first + number) (omega arith) (omega (arith, below)))) in
      let same : first + number - first ≡ number = omega arith in (l.0, l.2 ∙ same)

  -- an object with bytes has as many slots as they need
  pub run_sized : (first size : ℕ) → option_map (length {A = ℕ}) (bytes_at h.heap first) ≡ Some size → slots_in xs first ≡ slots_for size
  run_sized first size e = slots_are first ∙ turn (bytes_at h.heap first) (is.sized first) e
    where
      turn : (b : Option (List ℕ)) → C.IsSized (slots_at (attributes_in xs) first) b → option_map (length {A = ℕ}) b ≡ Some size → slots_at (attributes_in xs) first ≡ slots_for size
      turn None k e = cc
      turn (Some bytes) k e = let long : length bytes ≡ size = cc in k ∙ ap slots_for long

  abbrev told_by : (ℕ → Bool) → selectors.DescriptorTable → ℕ → Option ℕ → Option Descriptor
  told_by which t q p = elim p [
    | None ↦ descriptor_at t q
    | Some first ↦ if which first then says h.heap (kind_in xs first) (q - first) first else descriptor_at t q
  ]

  -- what is told of an object, and of no other
  pub told_at : (which : ℕ → Bool) (t : selectors.DescriptorTable) (q first : ℕ) → owner_in xs q ≡ Some first → (b : Bool) → which first ≡ b → told h.heap xs which t q ≡ (if b then says h.heap (kind_in xs first) (q - first) first else descriptor_at t q)
  told_at which t q first e b w = ap (told_by which t q) e ∙ ap (λ b. if b then says h.heap (kind_in xs first) (q - first) first else descriptor_at t q) w

  pub told_nobody : (which : ℕ → Bool) (t : selectors.DescriptorTable) (q : ℕ) → owner_in xs q ≡ None → told h.heap xs which t q ≡ descriptor_at t q
  told_nobody which t q e = ap (told_by which t q) e

  -- labels stay
  pub told_labelled : (which : ℕ → Bool) (t u : selectors.DescriptorTable) → AreLabelled xs t → ((q : ℕ) → descriptor_at u q ≡ told h.heap xs which t q) → AreLabelled xs u
  told_labelled which t u are tells q = ap label_of (tells q) ∙ turn (owner_in xs q) refl
    where
      either : (first : ℕ) → owner_in xs q ≡ Some first → (b : Bool) → label_of (if b then says h.heap (kind_in xs first) (q - first) first else descriptor_at t q) ≡ C.label_in xs q
      either first e true = says_label h.heap (kind_in xs first) (q - first) first (owner_there q first e) ∙ sym (ap (option_map (λ first. (kind_in xs first, q - first))) e)
      either first e false = are q

      turn : (p : Option ℕ) → owner_in xs q ≡ p → label_of (told h.heap xs which t q) ≡ C.label_in xs q
      turn None e = ap label_of (told_nobody which t q e) ∙ are q
      turn (Some first) e = ap label_of (told_at which t q first e (which first) refl) ∙ either first e (which first)

  -- and what is told of some, and then of others, is told of both
  pub told_more : (one other both : ℕ → Bool) (t u v : selectors.DescriptorTable) → ((first : ℕ) → both first ≡ (one first || other first)) → ((q : ℕ) → descriptor_at u q ≡ told h.heap xs one t q) → ((q : ℕ) → descriptor_at v q ≡ told h.heap xs other u q)
      → (q : ℕ) → descriptor_at v q ≡ told h.heap xs both t q
  told_more one other both t u v joint first_told then_told q = then_told q ∙ turn (owner_in xs q) refl
    where
      either : (a b : Bool) (d e : Option Descriptor) → (if b then d else (if a then d else e)) ≡ (if a || b then d else e)
      either true true d e = refl
      either true false d e = refl
      either false b d e = refl

      turn : (p : Option ℕ) → owner_in xs q ≡ p → told h.heap xs other u q ≡ told h.heap xs both t q
      turn None e = told_nobody other u q e ∙ first_told q ∙ told_nobody one t q e ∙ sym (told_nobody both t q e)
      turn (Some first) e =
          let d : Option Descriptor = says h.heap (kind_in xs first) (q - first) first in
          told_at other u q first e (other first) refl ∙ ap (λ x. if other first then d else x) (first_told q ∙ told_at one t q first e (one first) refl)
          ∙ either (one first) (other first) d (descriptor_at t q) ∙ sym (told_at both t q first e (one first || other first) (joint first))

  -- What is done to one run tells that object's selectors.
  pub run_told : (says_in : ℕ → Option Descriptor) (t : selectors.DescriptorTable) (first : ℕ) → ((q : ℕ) → owner_in xs q ≡ Some first → says_in q ≡ says h.heap (kind_in xs first) (q - first) first)
      → (q : ℕ) → in_run first (slots_in xs first) says_in t q ≡ told h.heap xs (λ other. first == other) t q
  run_told says_in t first tells q = elim (C.cases_Bool (is_in_run first (slots_in xs first) q)) [
    | inl inside ↦ ap (λ b. if b then says_in q else descriptor_at t q) inside ∙ tells q (lies_owner q first inside) ∙ sym (told_at (λ other. first == other) t q first (lies_owner q first inside) true (C.eq-eqb first first refl))
    | inr outside ↦ ap (λ b. if b then says_in q else descriptor_at t q) outside ∙ sym (turn outside (owner_in xs q) refl)
  ]
    where
      turn : is_in_run first (slots_in xs first) q ≡ false → (p : Option ℕ) → owner_in xs q ≡ p → told h.heap xs (λ other. first == other) t q ≡ descriptor_at t q
      turn f None e = told_nobody (λ other. first == other) t q e
      turn f (Some g) e = told_at (λ other. first == other) t q g e false (C.ne_eqb first g (λ same. false≢true (sym f ∙ owner_lies q first (e ∙ ap Some (sym same)))))

  -- one that has no bytes
  pub vacated_told : (t : selectors.DescriptorTable) → AreLabelled xs t → (first : ℕ) → bytes_at h.heap first ≡ None → (q : ℕ) → in_run first (slots_in xs first) (λ slot. Some (unset (kind_at t slot) (number_at t slot))) t q ≡ told h.heap xs (λ other. first == other) t q
  vacated_told t are first gone = run_told (λ slot. Some (unset (kind_at t slot) (number_at t slot))) t first (λ q e.
      let l = labels t are q first e in (λ i. Some (unset (l.1 i) (l.2 i))) ∙ sym (says_absent h.heap (kind_in xs first) (q - first) first (owner_there q first e) gone))

  -- one with so many bytes at an address
  pub placed_told : (t : selectors.DescriptorTable) → AreLabelled xs t → (first at size : ℕ) → option_map (length {A = ℕ}) (bytes_at h.heap first) ≡ Some size → finmap.get h.heap.places first ≡ Some at
      → (q : ℕ) → in_run first (slots_in xs first) (λ slot. Some (reaching (kind_at t slot) at size (slot - first))) t q ≡ told h.heap xs (λ other. first == other) t q
  placed_told t are first at size sized stands = run_told (λ slot. Some (reaching (kind_at t slot) at size (slot - first))) t first (λ q e.
      (λ i. Some (reaching ((labels t are q first e).1 i) at size (q - first))) ∙ sym (made_here (kind_in xs first) (q - first) h.heap first size at (bytes_at h.heap first) refl (long (bytes_at h.heap first) sized) stands))
    where
      long : (b : Option (List ℕ)) → option_map (length {A = ℕ}) b ≡ Some size → C.IsSomeAnd b (λ bytes. length bytes ≡ size)
      long None e = cc
      long (Some bytes) e = let same : length bytes ≡ size = cc in same

  -- So all selectors say what they have to, where those that aren't told do.
  pub all_told : (which : ℕ → Bool) (t u : selectors.DescriptorTable) → AreLabelled xs t → ((q : ℕ) → descriptor_at u q ≡ told h.heap xs which t q)
      → ((q first : ℕ) → owner_in xs q ≡ Some first → which first ≡ false → descriptor_at t q ≡ says h.heap (kind_in xs first) (q - first) first) → (q : ℕ) → descriptor_at u q ≡ described h.heap xs q
  all_told which t u are tells rest q = tells q ∙ turn (owner_in xs q) refl
    where
      by_owner : Option ℕ → Option Descriptor
      by_owner p = elim p [ None ↦ None | Some first ↦ says h.heap (kind_in xs first) (q - first) first ]

      turn : (p : Option ℕ) → owner_in xs q ≡ p → told h.heap xs which t q ≡ described h.heap xs q
      turn None e = told_nobody which t q e ∙ unlabelled (descriptor_at t q) (are q ∙ ap (option_map (λ first. (kind_in xs first, q - first))) e) ∙ sym (ap by_owner e)
      turn (Some first) e = elim (C.cases_Bool (which first)) [
        | inl told_here ↦ told_at which t q first e true told_here ∙ sym (ap by_owner e)
        | inr untold ↦ told_at which t q first e false untold ∙ rest q first e untold ∙ sym (ap by_owner e)
      ]

  -- So they do behind a step that tells some others, and then the object that the step is about.
  pub finished : (which : ℕ → Bool) (t u v : selectors.DescriptorTable) (own at n : ℕ) → AreLabelled xs t → ((q : ℕ) → descriptor_at u q ≡ told h.heap xs which t q)
      → option_map (length {A = ℕ}) (bytes_at h.heap own) ≡ Some n → finmap.get h.heap.places own ≡ Some at → ((q : ℕ) → descriptor_at v q ≡ C.placed own at n u q)
      → ((q first : ℕ) → owner_in xs q ≡ Some first → first ≢ own → which first ≡ false → descriptor_at t q ≡ says h.heap (kind_in xs first) (q - first) first) → (q : ℕ) → descriptor_at v q ≡ described h.heap xs q
  finished which t u v own at n are tells sized stands places rest =
      all_told both t v are (told_more which (λ first. own == first) both t u v (λ first. refl) tells (λ q. places q ∙ own_told q)) rest_of
    where
      both : ℕ → Bool
      both first = which first || (own == first)

      own_told : (q : ℕ) → C.placed own at n u q ≡ told h.heap xs (λ first. own == first) u q
      own_told q = subst (λ count. in_run own count (λ slot. Some (reaching (kind_at u slot) at n (slot - own))) u q ≡ told h.heap xs (λ first. own == first) u q)
          (run_sized own n sized) (placed_told u (told_labelled which t u are tells) own at n sized stands q)

      rest_of : (q first : ℕ) → owner_in xs q ≡ Some first → both first ≡ false → descriptor_at t q ≡ says h.heap (kind_in xs first) (q - first) first
      rest_of q first e none = turn (which first) refl (own == first) refl none
        where
          turn : (a : Bool) → which first ≡ a → (b : Bool) → (own == first) ≡ b → (a || b) ≡ false → descriptor_at t q ≡ says h.heap (kind_in xs first) (q - first) first
          turn true w b o f = absurd (false≢true (sym f))
          turn false w true o f = absurd (false≢true (sym f))
          turn false w false o f = rest q first e (λ same. false≢true (sym o ∙ C.eq-eqb own first (sym same))) w
