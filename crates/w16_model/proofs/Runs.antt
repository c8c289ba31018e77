-- Runs of slots: whose a slot is, and what changes of attributes leave of runs.
use Rattle.w16_model.proofs
use proofs.Common as C
use proofs.Common.{◌≡◌, ◌≢◌, ℕ, ◌+◌, ◌-◌, ◌*◌, ◌/◌, ◌<◌, ◌≤◌, inl, inr, min, Bool, true, false, cond, if◌then◌else◌, ◌&&◌, ◌==◌, nat_le, nat_lt, IsTrue, IfSome, List, [], ◌∷◌, length, find, Option, Some, None, option_map, unwrap_or, is_some, refl, sym, ap, ◌∙◌, subst, arith, ltb-true}
use proofs.Common.{lt-ltb, FinMap, nat_cmp, false≢true, cases_Bool, cases_eq, Block, Attributes, FIRST_SLOT, REACH, Heap, bytes_at, object_at, Handles, AreRuns, IsRun, Part, IsFreeSlot, slots_at, has_slot, owner_of, slots_for, selector_of}
use proofs.Gaps.{Member, Each-at, Each-from_All}
use proofs.Heaps.{IsBlockOf, block_member, found_member, member_found, keys_rise}
use proofs.KeptHeaps.{bytes_in, inserted_here, inserted_other, taken_here, taken_other}
use Rattle.w16_model.specs.{Owned.owned_in, Owned.owned_at, declared.Owned.Owned}
use Rattle.std.specs.FinMap as finmap

-- The first of a list that passes a test.
module _ {X : Type 0} (test : X → Bool) where
  found : (xs : List X) (x : X) → find test xs ≡ Some x → Member x xs × (test x ≡ true)
  found [] x e = cc
  found (y ∷ xs) x e = elim (test y) as (λ b. test y ≡ b → cond b (Some y) (find test xs) ≡ Some x → Member x (y ∷ xs) × (test x ≡ true)) [
    | true ↦ λ t h. let same : y ≡ x = cc in (inl (sym same), ap test (sym same) ∙ t)
    | false ↦ λ t h. let r : Member x xs × (test x ≡ true) = found xs x h in (inr r.0, r.1)
  ] refl e

  none_passes : (xs : List X) → find test xs ≡ None → (x : X) → Member x xs → test x ≡ true → ⊥
  none_passes [] e x m t = absurd m
  none_passes (y ∷ xs) e x (inl same) t =
      let here : test y ≡ true = ap test (sym same) ∙ t in
      let some : ◌≡◌ {A = Option X} None (Some y) = sym e ∙ ap (λ b. cond b (Some y) (find test xs)) here in cc
  none_passes (y ∷ xs) e x (inr n) t = none_passes xs (later (test y) e) x n t
    where
      later : (b : Bool) → cond b (Some y) (find test xs) ≡ None → find test xs ≡ None
      later true h = cc
      later false h = h

  passes_none : (xs : List X) → ((x : X) → Member x xs → test x ≡ true → ⊥) → find test xs ≡ None
  passes_none [] h = refl
  passes_none (y ∷ xs) h = elim (cases_Bool (test y)) [
    | inl t ↦ absurd (h y (inl refl) t)
    | inr f ↦ ap (λ b. cond b (Some y) (find test xs)) f ∙ passes_none xs (λ x m. h x (inr m))
  ]

-- the object of a slot has a run in which another slot is
abbrev pub IsIn : FinMap nat_cmp Attributes → ℕ → ℕ → Type 0
IsIn m slot first = (first ≤ slot) × (slot < first + slots_at m first)

module _ (m : FinMap nat_cmp Attributes) where
  pub slots_of : (first : ℕ) (a : Attributes) → finmap.get m first ≡ Some a → slots_at m first ≡ a.slots
  slots_of first a e = ap (λ p. unwrap_or (option_map (λ (a : Attributes). a.slots) p) 0) e

  pub slots_none : (first : ℕ) → finmap.get m first ≡ None → slots_at m first ≡ 0
  slots_none first e = ap (λ p. unwrap_or (option_map (λ (a : Attributes). a.slots) p) 0) e

  entry_is : (e : ℕ × Attributes) → Member e (finmap.entries m) → finmap.get m e.0 ≡ Some e.1
  entry_is e n = C.get-entries m e.0 ∙ member_found (finmap.entries m) e.0 e.1 (keys_rise (finmap.entries m) (C.entries_sorted m)) n

  passes : (slot first : ℕ) (a : Attributes) → finmap.get m first ≡ Some a → IsIn m slot first → has_slot slot (first, a) ≡ true
  passes slot first a there lies =
      ap (λ b. b && nat_lt slot (first + a.slots)) (C.le-leb first slot lies.0)
      ∙ lt-ltb slot (first + a.slots) (subst (λ n. slot < first + n) (slots_of first a there) lies.1)

  -- the owner's run has the slot
  pub owner_is : (slot first : ℕ) → owner_of m slot ≡ Some first → IsIn m slot first
  owner_is slot first e = turn (find (has_slot slot) (finmap.entries m)) refl e
    where
      turn : (p : Option (ℕ × Attributes)) → find (has_slot slot) (finmap.entries m) ≡ p → option_map (λ (e : ℕ × Attributes). e.0) p ≡ Some first → IsIn m slot first
      turn None f e = cc
      turn (Some d) f e =
          let r : Member d (finmap.entries m) × (has_slot slot d ≡ true) = found (has_slot slot) (finmap.entries m) d f in
          let parts : IsTrue (nat_le d.0 slot) × IsTrue (nat_lt slot (d.0 + d.1.slots)) = C.and_parts (nat_le d.0 slot) (nat_lt slot (d.0 + d.1.slots)) r.1 in
          let same : d.0 ≡ first = cc in
          subst (IsIn m slot) same (C.leb-true d.0 slot parts.0, subst (λ n. slot < d.0 + n) (sym (slots_of d.0 d.1 (entry_is d r.0))) (ltb-true slot (d.0 + d.1.slots) parts.1))

  -- where a slot has no owner, it is in no run
  pub no_owner : (slot : ℕ) → owner_of m slot ≡ None → (first : ℕ) → IsIn m slot first → ⊥
  no_owner slot none first lies = turn (finmap.get m first) refl
    where
      nothing : (p : Option (ℕ × Attributes)) → option_map (λ (e : ℕ × Attributes). e.0) p ≡ None → p ≡ None
      nothing None e = refl
      nothing (Some d) e = cc

      turn : (p : Option Attributes) → finmap.get m first ≡ p → ⊥
      turn None there = let zero_slots : slots_at m first ≡ 0 = slots_none first there in omega (arith, lies.0, lies.1, zero_slots)
      turn (Some a) there = none_passes (has_slot slot) (finmap.entries m) (nothing (find (has_slot slot) (finmap.entries m)) none) (first, a)
          (found_member (finmap.entries m) first a (sym (C.get-entries m first) ∙ there)) (passes slot first a there lies)

  -- and where it is in none, it has none
  pub none_owns : (slot : ℕ) → ((first : ℕ) → IsIn m slot first → ⊥) → owner_of m slot ≡ None
  none_owns slot out = ap (option_map (λ (e : ℕ × Attributes). e.0)) (passes_none (has_slot slot) (finmap.entries m) (λ d n t.
      let parts : IsTrue (nat_le d.0 slot) × IsTrue (nat_lt slot (d.0 + d.1.slots)) = C.and_parts (nat_le d.0 slot) (nat_lt slot (d.0 + d.1.slots)) t in
      out d.0 (C.leb-true d.0 slot parts.0, subst (λ n. slot < d.0 + n) (sym (slots_of d.0 d.1 (entry_is d n))) (ltb-true slot (d.0 + d.1.slots) parts.1))))

  has_run : (first slot : ℕ) → IsIn m slot first → is_some (finmap.get m first) ≡ true
  has_run first slot lies = turn (finmap.get m first) refl
    where
      turn : (p : Option Attributes) → finmap.get m first ≡ p → is_some p ≡ true
      turn None there = let zero_slots : slots_at m first ≡ 0 = slots_none first there in absurd (omega (arith, lies.0, lies.1, zero_slots))
      turn (Some a) there = refl

  -- runs that are apart share no slot
  pub one_owner : (slots : ℕ) → AreRuns slots m → (slot a b : ℕ) → IsIn m slot a → IsIn m slot b → a ≡ b
  one_owner slots are slot a b x y = elim (cases_Bool (nat_lt a b)) [
    | inl t ↦ absurd (omega (arith, are.apart a b (ltb-true a b t) (has_run b slot y), x.1, y.0))
    | inr f ↦ elim (cases_Bool (nat_lt b a)) [
      | inl t ↦ absurd (omega (arith, are.apart b a (ltb-true b a t) (has_run a slot x), y.1, x.0))
      | inr g ↦ equal (nat_lt a b) (nat_lt b a) f g (lt-ltb a b) (lt-ltb b a)
    ]
  ]
    where
      equal : (s t : Bool) → s ≡ false → t ≡ false → (a < b → s ≡ true) → (b < a → t ≡ true) → a ≡ b
      equal s t f g h k = elim (cases_eq a b) [
        | inl e ↦ e
        | inr d ↦ absurd (apart d (λ l. false≢true (sym f ∙ h l)) (λ l. false≢true (sym g ∙ k l)))
      ]
        where
          apart : a ≢ b → (a < b → ⊥) → (b < a → ⊥) → ⊥
          apart d p q = d (omega (arith, p, q))

  -- and then each slot of a run has its owner
  pub is_owner : (slots : ℕ) → AreRuns slots m → (slot first : ℕ) → IsIn m slot first → owner_of m slot ≡ Some first
  is_owner slots are slot first lies = turn (owner_of m slot) refl
    where
      turn : (p : Option ℕ) → owner_of m slot ≡ p → owner_of m slot ≡ Some first
      turn None e = absurd (no_owner slot e first lies)
      turn (Some q) e = e ∙ ap Some (one_owner slots are slot q first (owner_is slot q e) lies)

-- What changes.

-- the slots of an object that comes, of one beside it, and of one beside an object that goes
abbrev slots_in : Option Attributes → ℕ
slots_in p = unwrap_or (option_map (λ (a : Attributes). a.slots) p) 0

pub slots_with : (m : FinMap nat_cmp Attributes) (first : ℕ) (a : Attributes) (q : ℕ) → q ≡ first → slots_at (finmap.insert m first a) q ≡ a.slots
slots_with m first a q e = ap slots_in (inserted_here m first a q e)

pub slots_beside : (m : FinMap nat_cmp Attributes) (first : ℕ) (a : Attributes) (q : ℕ) → q ≢ first → slots_at (finmap.insert m first a) q ≡ slots_at m q
slots_beside m first a q d = ap slots_in (inserted_other m first a q d)

pub slots_left : (m : FinMap nat_cmp Attributes) (gone q : ℕ) → q ≢ gone → slots_at (finmap.remove m gone) q ≡ slots_at m q
slots_left m gone q d = ap slots_in (taken_other m gone q d)

-- the first slot of a run is in it
pub first_in : (slots : ℕ) (m : FinMap nat_cmp Attributes) → AreRuns slots m → (first : ℕ) → is_some (finmap.get m first) ≡ true → IsIn m first first
first_in slots m are first some = turn _ refl some (are.each first)
  where
    turn : (p : Option Attributes) → finmap.get m first ≡ p → is_some p ≡ true → IfSome p (IsRun slots first) → IsIn m first first
    turn None e t h = absurd (false≢true t)
    turn (Some a) e t h = let many = slots_of m first a e in (omega arith, omega (arith, many, h.0))

-- a slot beside a new run of one has no owner still
pub unowned_beside : (m : FinMap nat_cmp Attributes) (first : ℕ) (a : Attributes) (s : ℕ) → a.slots ≡ 1 → s ≢ first → owner_of m s ≡ None → owner_of (finmap.insert m first a) s ≡ None
unowned_beside m first a s one other none = none_owns _ s (λ q lies. elim (cases_eq q first) [
  | inl e ↦ other (omega (arith, lies.0, lies.1, slots_with m first a q e, one, e))
  | inr d ↦ no_owner m s none q (lies.0, subst (λ n. s < q + n) (slots_beside m first a q d) lies.1)
])

-- a run that is there once one is gone was there before, and isn't that one
module _ (m : FinMap nat_cmp Attributes) (gone : ℕ) where
  pub fewer : (slot : ℕ) → slots_at (finmap.remove m gone) slot ≤ slots_at m slot
  fewer slot = elim (cases_eq slot gone) [
    | inl e ↦ let none : slots_at (finmap.remove m gone) slot ≡ 0 = slots_none (finmap.remove m gone) slot (taken_here m gone slot e) in omega (arith, none)
    | inr d ↦ let same : slots_at (finmap.remove m gone) slot ≡ slots_at m slot = slots_left m gone slot d in omega (arith, same)
  ]

  pub was_in : (q s : ℕ) → IsIn (finmap.remove m gone) s q → IsIn m s q
  was_in q s lies = let few : slots_at (finmap.remove m gone) q ≤ slots_at m q = fewer q in (lies.0, omega (arith, lies.1, few))

  pub not_gone : (q s : ℕ) → IsIn (finmap.remove m gone) s q → q ≡ gone → ⊥
  not_gone q s lies e = let none : slots_at (finmap.remove m gone) q ≡ 0 = slots_none (finmap.remove m gone) q (taken_here m gone q e) in omega (arith, lies.0, lies.1, none)

module _ (slots : ℕ) (m : FinMap nat_cmp Attributes) (are : AreRuns slots m) where
  -- a slot without an owner has no attributes
  pub unowned : (slot : ℕ) → owner_of m slot ≡ None → finmap.get m slot ≡ None
  unowned slot none = turn (finmap.get m slot) refl
    where
      turn : (p : Option Attributes) → finmap.get m slot ≡ p → finmap.get m slot ≡ None
      turn None e = e
      turn (Some a) e = absurd (no_owner m slot none slot (first_in slots m are slot (ap is_some e)))

  -- one run less
  pub runs_without : (gone : ℕ) → AreRuns slots (finmap.remove m gone)
  runs_without gone = record {
    each = λ slot. elim (cases_eq slot gone) [
      | inl e ↦ subst (λ p. IfSome p (IsRun slots slot)) (sym (taken_here m gone slot e)) tt
      | inr d ↦ subst (λ p. IfSome p (IsRun slots slot)) (sym (taken_other m gone slot d)) (are.each slot)
    ];
    apart = λ slot other less some. elim (cases_eq other gone) [
      | inl e ↦ absurd (false≢true (sym (ap is_some (taken_here m gone other e)) ∙ some))
      | inr d ↦
          let bound : slot + slots_at m slot ≤ other = are.apart slot other less (sym (ap is_some (taken_other m gone other d)) ∙ some) in
          let few : slots_at (finmap.remove m gone) slot ≤ slots_at m slot = fewer m gone slot in
          omega (arith, bound, few)
    ];
  }

  -- a run more, of slots that have no owner
  module _ (first : ℕ) (a : Attributes) (some : 0 < a.slots) (owned : C.IsOwnedRun a) (free : (k : ℕ) → k < a.slots → (FIRST_SLOT ≤ first + k) × (first + k < FIRST_SLOT + slots) × (owner_of m (first + k) ≡ None)) where
    begins : FIRST_SLOT ≤ first
    begins = let at : FIRST_SLOT ≤ first + 0 = (free 0 some).0 in omega (arith, at)

    ends : first + a.slots ≤ FIRST_SLOT + slots
    ends = let last : a.slots - 1 < a.slots = omega (arith, some) in let below : first + (a.slots - 1) < FIRST_SLOT + slots = (free (a.slots - 1) last).1 in omega (arith, some, below)

    -- no other run has one of them
    misses : (q slot : ℕ) → first ≤ slot → slot < first + a.slots → IsIn m slot q → ⊥
    misses q slot low high lies =
        let k : slot - first < a.slots = omega (arith, low, high) in
        let at : first + (slot - first) ≡ slot = omega (arith, low) in
        no_owner m slot (subst (λ s. owner_of m s ≡ None) at (free (slot - first) k).2) q lies

    pub runs_with : AreRuns slots (finmap.insert m first a)
    runs_with = record {
      each = λ slot. elim (cases_eq slot first) [
        | inl e ↦ subst (λ p. IfSome p (IsRun slots slot)) (sym (inserted_here m first a slot e)) (some, subst (λ s. FIRST_SLOT ≤ s) (sym e) begins, subst (λ s. s + a.slots ≤ FIRST_SLOT + slots) (sym e) ends, owned)
        | inr d ↦ subst (λ p. IfSome p (IsRun slots slot)) (sym (inserted_other m first a slot d)) (are.each slot)
      ];
      apart = λ slot other less t. elim (cases_eq slot first) [
        | inl e ↦
            let count : slots_at (finmap.insert m first a) slot ≡ a.slots = slots_with m first a slot e in
            let differs : other ≢ first = λ f. absurd (omega (arith, less, e, f)) in
            let there : is_some (finmap.get m other) ≡ true = sym (ap is_some (inserted_other m first a other differs)) ∙ t in
            let out : other < first + a.slots → ⊥ = λ high. misses other other (omega (arith, less, e)) high (first_in slots m are other there) in
            omega (arith, count, e, out)
        | inr d ↦
            let count : slots_at (finmap.insert m first a) slot ≡ slots_at m slot = slots_beside m first a slot d in
            elim (cases_eq other first) [
              | inl e ↦
                  let out : first < slot + slots_at m slot → ⊥ = λ high. misses slot first (omega arith) (omega (arith, some)) (omega (arith, less, e), high) in
                  omega (arith, count, e, out)
              | inr f ↦ let bound : slot + slots_at m slot ≤ other = are.apart slot other less (sym (ap is_some (inserted_other m first a other f)) ∙ t) in omega (arith, count, bound)
            ]
      ];
    }

-- there is a slot at least
pub some_slots : (n : ℕ) → 0 < slots_for n
some_slots n = omega arith

-- a free slot is a run of one
pub run_of_one : (old : Handles) (slot : ℕ) → IsFreeSlot old slot → C.IsFreeRun old slot 1
run_of_one old slot free k below = let at : slot ≡ slot + k = omega (arith, below) in subst (IsFreeSlot old) at free

module _ (old : Handles) (is : C.AreHandles old) where
  -- an object has a slot
  pub numbered : (slot : ℕ) → is_some (object_at old.heap slot) ≡ true → C.IsSlot old slot
  numbered slot there = turn (finmap.get old.attributes slot) (is.attributed slot ∙ there) (is.runs.each slot)
    where
      turn : (p : Option Attributes) → is_some p ≡ true → IfSome p (IsRun old.slots slot) → C.IsSlot old slot
      turn None t h = absurd (false≢true t)
      turn (Some a) t h = (h.1, omega (arith, h.0, h.2))

  -- an object that a module owns has as many slots as its size needs
  pub owned_slots : (slot : ℕ) → IfSome (owned_at old slot) (λ (o : Owned). slots_at old.attributes slot ≡ slots_for o.size)
  owned_slots slot = turn (finmap.get old.attributes slot) refl (is.runs.each slot)
    where
      turn : (p : Option Attributes) → finmap.get old.attributes slot ≡ p → IfSome p (IsRun old.slots slot) → IfSome (owned_in p) (λ (o : Owned). slots_at old.attributes slot ≡ slots_for o.size)
      turn None e h = tt
      turn (Some a) e h = subst (λ n. IfSome a.owned (λ (o : Owned). n ≡ slots_for o.size)) (sym (slots_of old.attributes slot a e)) h.3

  -- a free slot has no object
  pub unused_slot : (slot : ℕ) → IsFreeSlot old slot → object_at old.heap slot ≡ None
  unused_slot slot free = turn (object_at old.heap slot) refl
    where
      turn : (p : Option C.Object) → object_at old.heap slot ≡ p → object_at old.heap slot ≡ None
      turn None e = e
      turn (Some o) e = absurd (false≢true (sym (ap is_some (unowned old.slots old.attributes is.runs slot free.1)) ∙ is.attributed slot ∙ ap is_some e))

  -- nor has the first of a free run
  pub unused : (slot count : ℕ) → 0 < count → C.IsFreeRun old slot count → object_at old.heap slot ≡ None
  unused slot count some free = unused_slot slot (let at : slot + 0 ≡ slot = omega arith in subst (IsFreeSlot old) at (free 0 some))

-- What a selector reaches.

-- an object with bytes has at least one
pub some_bytes : (heap : Heap) → C.IsHeap heap → (id : ℕ) (bytes : List ℕ) → bytes_at heap id ≡ Some bytes → 0 < length bytes
some_bytes heap is id bytes e = turn _ refl e
  where
    turn : (p : Option C.Object) → object_at heap id ≡ p → bytes_in p ≡ Some bytes → 0 < length bytes
    turn None there h = cc
    turn (Some o) there h =
        let x : Block = record { id = id; at = unwrap_or (finmap.get _ id) 0; size = length bytes; hold = C.hold_of_object o } in
        let b : IsBlockOf heap x = record { object = o; bytes = bytes; is_there = there; has_bytes = h; place = refl; size = refl; hold = refl } in
        (Each-at (λ y. (heap.lo ≤ y.at) × (0 < y.size) × (C.block_end y ≤ heap.hi)) _ (Each-from_All _ _ is.placed.inside) x (block_member heap x b)).1

number_below : (number slots size : ℕ) → number < slots → slots ≡ slots_for size → 0 < size → (0 < min REACH (size - REACH * number)) × (REACH * number + min REACH (size - REACH * number) ≤ size)
number_below number slots size below many some = grind arith

module _ (handles : Handles) (is : C.AreHandles handles) (selector : ℕ) where
  abbrev Reaches : Part → Type 0
  Reaches p = (selector ≡ selector_of (p.slot + p.number)) × (p.number < slots_at handles.attributes p.slot)
      × IfSome (bytes_at handles.heap p.slot) (λ bytes. (0 < C.reached (length bytes) p) × (REACH * p.number + C.reached (length bytes) p ≤ length bytes))

  abbrev part_of : Option ℕ → Option Part
  part_of p = option_map (λ slot. record { slot = slot; number = selector / 8 - slot }) p

  abbrev InRange : ℕ → Option (List ℕ) → Type 0
  InRange first b = IfSome b (λ bytes. (0 < min REACH (length bytes - REACH * (selector / 8 - first))) × (REACH * (selector / 8 - first) + min REACH (length bytes - REACH * (selector / 8 - first)) ≤ length bytes))

  of_bytes : (first : ℕ) → IsIn handles.attributes (selector / 8) first → (b : Option (List ℕ)) → bytes_at handles.heap first ≡ b → IfSome b (λ bytes. slots_at handles.attributes first ≡ slots_for (length bytes)) → InRange first b
  of_bytes first lies None e h = tt
  of_bytes first lies (Some bytes) e h = number_below (selector / 8 - first) (slots_at handles.attributes first) (length bytes) (omega (arith, lies.0, lies.1)) h (some_bytes handles.heap is.heap first bytes e)

  of_owner : selector ≡ selector_of (selector / 8) → (p : Option ℕ) → owner_of handles.attributes (selector / 8) ≡ p → IfSome (part_of p) Reaches
  of_owner t None e = tt
  of_owner t (Some first) e =
      let lies : IsIn handles.attributes (selector / 8) first = owner_is handles.attributes (selector / 8) first e in
      let there : first + (selector / 8 - first) ≡ selector / 8 = omega (arith, lies.0) in
      (t ∙ ap selector_of (sym there), omega (arith, lies.0, lies.1), of_bytes first lies (bytes_at handles.heap first) refl (is.sized first))

  reaches : (b : Bool) → (selector == selector_of (selector / 8)) ≡ b → IfSome (if b then part_of (owner_of handles.attributes (selector / 8)) else None) Reaches
  reaches false t = tt
  reaches true t = of_owner (C.eqb-true selector (selector_of (selector / 8)) t) (owner_of handles.attributes (selector / 8)) refl

pub reach_law : C.ReachLaw
reach_law handles selector is = reaches _ is _ _ refl
