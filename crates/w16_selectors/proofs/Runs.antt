-- What marks tell of slots, and where a run of free ones begins.
use Rattle.w16_selectors.specs
use Rattle.std.proofs.Common.{◌≡◌, ℕ, ◌+◌, ◌-◌, ◌<◌, ◌≤◌, List, length, get_or, drop, take, Bool, true, false, not, ◌↔◌, IsTrue, Option, Some, None, is_some, IsSome, option_map, unwrap_or, refl, sym, ap, ◌∙◌, subst, arith, inl, inr, length-take-le, length-drop}
use Rattle.std.proofs.lemmas.Bool.{cases_lt, false≢true, eqb-true, eq-eqb}
use Rattle.std.proofs.lemmas.List.{get_or-drop, get_or-take, length-map}
use Rattle.std.proofs.Math.ListN.{get_or-map}
use Rattle.memchr.specs.Find.{IsFirst, IsFirstByte, Nowhere, Passes, is_byte}
use Rattle.w16_model.specs.declared.TheConstants.{FIRST_SLOT}
use specs.declared.Descriptor.{Descriptor}
use specs.Descriptors.{DescriptorTable, descriptor_at, IsUntaken, IsFreeRun}
use specs.Representation.{SelectorsInvariant, mark_of}
use Rattle.w16_selectors.proofs.Represented.{mark_of_taken}

mark_at : (table : DescriptorTable) (marks : List ℕ) (slot : ℕ) → SelectorsInvariant table marks → get_or marks slot 0 ≡ mark_of (descriptor_at table slot)
mark_at table marks slot kept = rw kept.marked (get_or-map mark_of table slot None)

free_mark : (entry : Option Descriptor) → mark_of entry ≡ 0 → entry ≡ None
free_mark None e = refl
free_mark (Some d) e = absurd (omega arith)

taken_mark : (entry : Option Descriptor) → mark_of entry ≡ 1 → IsSome entry
taken_mark None e = absurd (omega arith)
taken_mark (Some d) e = refl

-- The first place of a part of a list, counted from the list's beginning.
module _ (P Q : ℕ → Type 0) (from to n : ℕ) (long : from + n ≡ to) (there : (k : ℕ) → k < n → P k → Q (from + k)) (back : (k : ℕ) → k < n → Q (from + k) → P k) where
  none_until : (k m : ℕ) → m ≤ n → Nowhere P 0 m → from ≤ k → k < from + m → Q k → ⊥
  none_until k m le none low high q = none (k - from) (omega arith) (omega arith) (back (k - from) (omega arith) (let e : k ≡ from + (k - from) = omega arith in subst Q e q))

  first_behind : (r : Option ℕ) → IsFirst P 0 n r → IsFirst Q from to (option_map (λ k. from + k) r)
  first_behind None h = λ k low high q. none_until k n (omega arith) h low (omega arith) q
  first_behind (Some j) h =
      let first = h.0 in
      let below = first.high in (
        record { low = omega arith; high = omega arith; before = λ k low high q. none_until k j (omega arith) first.before low high q },
        there j below h.1,
      )

-- the first slot whose descriptor's mark is b, by a search of a part of the marks
first_marked : (table : DescriptorTable) (marks : List ℕ) (from to n b : ℕ) (Q : ℕ → Type 0)
    → SelectorsInvariant table marks → from + n ≡ to → to ≤ length table
    → ((slot : ℕ) → from ≤ slot → slot < to → mark_of (descriptor_at table slot) ≡ b → Q slot)
    → ((slot : ℕ) → Q slot → mark_of (descriptor_at table slot) ≡ b)
    → (r : Option ℕ) → IsFirstByte (is_byte b) (take n (drop from marks)) r → IsFirst Q from to (option_map (λ k. from + k) r)
first_marked table marks from to n b Q kept long inside there back r h =
    let same : length marks ≡ length table = ap length kept.marked ∙ length-map table mark_of in
    let cut : length (take n (drop from marks)) ≡ n = length-take-le n _ (rw (length-drop from marks) (omega arith)) in
    let h' : IsFirst (Passes (is_byte b) (take n (drop from marks))) 0 n r = subst (λ (m : ℕ). IsFirst (Passes (is_byte b) (take n (drop from marks))) 0 m r) cut h in
    first_behind _ Q from to n long
    (λ k lt passes. there _ (omega arith) (omega arith) (sym (read k lt) ∙ eqb-true _ b passes))
    (λ k lt q. eq-eqb _ b (read k lt ∙ back _ q)) r h'
  where
    read : (k : ℕ) → k < n → get_or (take n (drop from marks)) k 0 ≡ mark_of (descriptor_at table (from + k))
    read k lt = get_or-take n _ k 0 lt ∙ get_or-drop from marks k 0 ∙ mark_at table marks _ kept

pub first_free : (table : DescriptorTable) (marks : List ℕ) (from : ℕ)
    → SelectorsInvariant table marks → FIRST_SLOT ≤ from → from ≤ length table
    → (r : Option ℕ) → IsFirstByte (is_byte 0) (take (length marks - from) (drop from marks)) r → IsFirst (IsUntaken table) from (length table) (option_map (λ k. from + k) r)
first_free table marks from kept above inside r h =
    let same : length marks ≡ length table = ap length kept.marked ∙ length-map table mark_of in
    first_marked table marks from _ _ 0 _ kept (omega arith) (omega arith)
    (λ slot low high e. (omega arith, high, free_mark _ e))
    (λ slot free. ap mark_of free.2) r h

pub first_taken : (table : DescriptorTable) (marks : List ℕ) (from to : ℕ)
    → SelectorsInvariant table marks → from ≤ to → to ≤ length table
    → (r : Option ℕ) → IsFirstByte (is_byte 1) (take (to - from) (drop from marks)) r → IsFirst (λ slot. IsSome (descriptor_at table slot)) from to (option_map (λ k. from + k) r)
first_taken table marks from to kept order inside r h =
    first_marked table marks from to _ 1 (λ slot. IsSome _) kept (omega arith) inside
    (λ slot low high e. taken_mark _ e)
    (λ slot taken. mark_of_taken _ taken) r h

-- No run begins below a place. A taken slot from there on, so near that each run up to it would reach it, puts the place behind it, and free
-- slots only come from the next one on.
pub no_run : (table : DescriptorTable) (from taken next count : ℕ)
    → ((lower : ℕ) → lower < from → IsFreeRun table lower count → ⊥)
    → from ≤ taken → taken < from + count → IsSome (descriptor_at table taken) → Nowhere (IsUntaken table) (taken + 1) next
    → (lower : ℕ) → lower < next → IsFreeRun table lower count → ⊥
no_run table from taken next count below low near is none lower lt run = elim (cases_lt lower from) [
  | inl before ↦ below lower before run
  | inr after ↦ elim (cases_lt taken lower) [
    | inl behind ↦ none lower (omega arith) lt (let e : lower + 0 ≡ lower = omega arith in subst (IsUntaken table) e (run.1 0 (omega arith)))
    | inr late ↦
        let e : lower + (taken - lower) ≡ taken = omega arith in
        let free : IsUntaken table taken = subst (IsUntaken table) e (run.1 _ (omega arith)) in
        false≢true (ap is_some (sym free.2) ∙ is)
  ]
]

-- nor where too few slots are left
pub none_left : (table : DescriptorTable) (from count : ℕ) → ((lower : ℕ) → lower < from → IsFreeRun table lower count → ⊥) → length table - from < count → (first : ℕ) → IsFreeRun table first count → ⊥
none_left table from count below few first run = elim (cases_lt first from) [
  | inl before ↦ below first before run
  | inr after ↦ elim (cases_lt first (length table)) [
    | inl inside ↦
        let e : first + (length table - first) ≡ length table = omega arith in
        let free : IsUntaken table (length table) = subst (IsUntaken table) e (run.1 _ (omega arith)) in
        absurd (omega (arith, free.1))
    | inr past ↦ let free : IsUntaken table (first + 0) = run.1 0 (omega arith) in absurd (omega (arith, free.1))
  ]
]

-- Where free slots go on: at the first that was found, or behind the last slot.
pub record GoesOn (Q : ℕ → Type 0) (from to next : ℕ) : Type 0 where
  pub low : from ≤ next
  pub high : next ≤ to
  pub none : Nowhere Q from next

pub goes_on : (Q : ℕ → Type 0) (from to : ℕ) (r : Option ℕ) → from ≤ to → IsFirst Q from to r → GoesOn Q from to (unwrap_or r to)
goes_on Q from to None le h = record { low = le; high = omega arith; none = h }
goes_on Q from to (Some j) le h = let first = h.0 in record { low = first.low; high = omega (arith, first.high); none = first.before }

untaken : (entry : Option Descriptor) → (IsSome entry → ⊥) → entry ≡ None
untaken None n = refl
untaken (Some d) n = absurd (n refl)

-- A run is free just where no first taken slot is found in it.
pub run_is_free : (table : DescriptorTable) (first count to : ℕ) → FIRST_SLOT ≤ first → first + count ≡ to → to ≤ length table
    → (r : Option ℕ) (free : Bool) → is_some r ≡ not free → IsFirst (λ slot. IsSome (descriptor_at table slot)) first to r → IsTrue free ↔ IsFreeRun table first count
run_is_free table first count to above long inside None true e h = (λ t. (above, λ k lt. (omega arith, omega arith, untaken (descriptor_at table (first + k)) (h (first + k) (omega arith) (omega arith)))), λ run. refl)
run_is_free table first count to above long inside None false e h = absurd (false≢true e)
run_is_free table first count to above long inside (Some j) true e h = absurd (false≢true (sym e))
run_is_free table first count to above long inside (Some j) false e h =
    let at : first + (j - first) ≡ j = omega (arith, h.0.low) in
    (λ t. absurd (false≢true t), λ run. absurd (false≢true (ap is_some (sym (subst (IsUntaken table) at (run.1 (j - first) (omega (arith, h.0.high)))).2) ∙ h.1)))
