-- Slots for the segments of a load are there exactly where as many are free.
use Rattle.w16_loading.proofs
use proofs.Common as C
use proofs.Common.{◌≡◌, ◌≢◌, ℕ, zero, suc, ◌+◌, ◌-◌, ◌<◌, ◌≤◌, inl, inr, Bool, not, List, [], ◌∷◌, ◌++◌, length, take, drop, flat_map, Some, None, is_some, refl, sym, ap, ◌∙◌, subst, arith, range_with_len, false≢true, FIRST_SLOT, IsFreeSlot, Member, EachPair, Found, free_slots}
use proofs.Common.{segments_in}
use proofs.Given.{first_apart}
use Rattle.std.specs.List.{AllByRecursion as Each}
use Rattle.w16_model.specs.Handles.{owner_of}
use Rattle.w16_laws.specs.Loading.{SlotsLaw}

-- Numbers of which no two are equal, all of them in a list, are no more than that has.

-- a list without one of its numbers
taken : (x : ℕ) (ys : List ℕ) → Member x ys → (zs : List ℕ) × (length ys ≡ length zs + 1) × ((q : ℕ) → q ≢ x → Member q ys → Member q zs)
taken x [] m = absurd m
taken x (y ∷ ys) (inl e) = (ys, omega arith, λ q d m. elim m [ inl f ↦ absurd (d (f ∙ sym e)) | inr k ↦ k ])
taken x (y ∷ ys) (inr m) =
    let r = taken x ys m in
    let n = r.1 in
    (y ∷ r.0, omega (arith, n), λ q d k. elim k [ inl f ↦ inl f | inr n ↦ inr (r.2 q d n) ])

fits : (xs ys : List ℕ) → EachPair (λ a b. a ≢ b) xs → ((q : ℕ) → Member q xs → Member q ys) → length xs ≤ length ys
fits [] ys apart inside = omega arith
fits (x ∷ xs) ys apart inside =
    let r = taken x ys (inside x (inl refl)) in
    let n = r.1 in
    let le = fits xs r.0 apart.1 (λ q m. r.2 q (λ e. C.Each-at (λ b. x ≢ b) xs apart.0 q m (sym e)) (inside q (inr m))) in
    omega (arith, n, le)

-- Ranges.

in_range : (n a q : ℕ) → Member q (range_with_len a n) → (a ≤ q) × (q < a + n)
in_range zero a q m = absurd m
in_range (suc n) a q (inl e) = (omega (arith, e), omega (arith, e))
in_range (suc n) a q (inr m) = let r = in_range n _ q m in let le = r.0 in let lt = r.1 in (omega (arith, le), omega (arith, lt))

range_has : (n a q : ℕ) → a ≤ q → q < a + n → Member q (range_with_len a n)
range_has zero a q le lt = absurd (omega (arith, le, lt))
range_has (suc n) a q le lt = elim (C.cases_eq q a) [ inl e ↦ inl e | inr d ↦ inr (range_has n _ q (let f = d in omega (arith, le, f)) (omega (arith, lt))) ]

range_apart : (n a : ℕ) → EachPair (λ a b. a ≢ b) (range_with_len a n)
range_apart zero a = tt
range_apart (suc n) a = (C.Each-from (λ b. a ≢ b) _ (λ q m e. let r = in_range n _ q m in let le = r.0 in absurd (omega (arith, le, e))), range_apart n _)

module _ (handles : C.Handles) where
  abbrev is_free : ℕ → Bool
  is_free slot = not (is_some (owner_of handles.attributes slot))

  free_is : (q : ℕ) → Member q (free_slots handles) → IsFreeSlot handles q
  free_is q m =
      let r : Member q (range_with_len FIRST_SLOT handles.slots) × C.IsTrue (is_free q) = C.member_filter is_free (range_with_len FIRST_SLOT handles.slots) q m in
      (in_range handles.slots FIRST_SLOT q r.0, none (owner_of handles.attributes q) r.1)
    where
      none : (p : C.Option ℕ) → C.IsTrue (not (is_some p)) → p ≡ None
      none None t = refl
      none (Some first) t = absurd (false≢true t)

  is_free_slot : (q : ℕ) → IsFreeSlot handles q → Member q (free_slots handles)
  is_free_slot q f = C.filter_member is_free (range_with_len FIRST_SLOT handles.slots) q (range_has handles.slots FIRST_SLOT q f.0.0 f.0.1) (ap (λ p. not (is_some p)) f.1)

abbrev AreMany : List Found → List (List ℕ) → Type 0
AreMany found slots = C.AllZip (λ (f : Found) (s : List ℕ). length s ≡ length f.read.tables.segments) found slots

-- slots in as many lists as there are modules
split : (found : List Found) (xs : List ℕ) → segments_in found ≤ length xs → (slots : List (List ℕ)) × (rest : List ℕ) × AreMany found slots × (flat_map (λ s. s) slots ++ rest ≡ xs)
split [] xs le = ([], xs, tt, refl)
split (f ∷ fs) xs le =
    let n : segments_in (f ∷ fs) ≡ length f.read.tables.segments + segments_in fs = C.sum_by-cons (λ (g : Found). length _) f fs in
    let k : length f.read.tables.segments ≤ length xs = omega (arith, n, le) in
    let d : length (drop (length f.read.tables.segments) xs) ≡ length xs - length f.read.tables.segments = C.length-drop _ xs in
    let r : (slots : List (List ℕ)) × (rest : List ℕ) × AreMany fs slots × (flat_map (λ s. s) slots ++ rest ≡ drop (length f.read.tables.segments) xs) = split fs _ (omega (arith, n, le, d)) in (
      take _ xs ∷ r.0,
      r.1,
      (C.length-take-le _ xs k, r.2),
      C.append_assoc _ (flat_map (λ s. s) r.0) r.1 ∙ ap (λ ys. take (length f.read.tables.segments) xs ++ ys) r.3 ∙ C.take-append-drop (length f.read.tables.segments) xs,
    )

counted : (found : List Found) (slots : List (List ℕ)) → AreMany found slots → length (flat_map (λ s. s) slots) ≡ segments_in found
counted [] [] h = refl
counted [] (s ∷ ss) h = absurd h
counted (f ∷ fs) [] h = absurd h
counted (f ∷ fs) (s ∷ ss) h =
    let e = h.0 in
    let m : length (s ++ flat_map (λ s. s) ss) ≡ length s + length (flat_map (λ s. s) ss) = C.length-append s (flat_map (λ s. s) ss) in
    m ∙ (λ i. e i + counted fs ss h.1 i) ∙ sym (C.sum_by-cons (λ g. length _) f fs)

first_each : (P : ℕ → Type 0) (s more : List ℕ) → Each P (s ++ more) → Each P s
first_each P [] more h = tt
first_each P (x ∷ s) more h = (h.0, first_each P s _ h.1)

pub slots_law : SlotsLaw
slots_law world found = (λ le. chosen le, λ s. enough s.0 s.1)
  where
    enough : (slots : List (List ℕ)) → C.AreSlots world found slots → segments_in found ≤ length (free_slots world.handles)
    enough slots a =
        let n : length (flat_map (λ s. s) slots) ≡ segments_in found = counted found slots a.many in
        let le : length (flat_map (λ s. s) slots) ≤ length (free_slots world.handles) = fits (flat_map (λ s. s) slots) (free_slots world.handles) (C.EachPair-from_AllPairs (λ a b. a ≢ b) (flat_map (λ s. s) slots) a.apart)
        (λ q m. is_free_slot world.handles q (C.Each-at (IsFreeSlot world.handles) (flat_map (λ s. s) slots) (C.Each-from_All (IsFreeSlot world.handles) (flat_map (λ s. s) slots) a.free) q m)) in
        omega (arith, n, le)

    chosen : segments_in found ≤ length (free_slots world.handles) → (slots : List (List ℕ)) × C.AreSlots world found slots
    chosen le =
        let r : (slots : List (List ℕ)) × (rest : List ℕ) × AreMany found slots × (flat_map (λ s. s) slots ++ rest ≡ free_slots world.handles) = split found (free_slots world.handles) le in (
          r.0,
          record {
            many = r.2;
            free = C.All-from_Each (IsFreeSlot world.handles) (flat_map (λ s. s) r.0) (first_each (IsFreeSlot world.handles) (flat_map (λ s. s) r.0) r.1
                (subst (Each (IsFreeSlot world.handles)) (sym r.3) (C.Each-from (IsFreeSlot world.handles) (free_slots world.handles) (free_is world.handles))));
            apart = C.AllPairs-from_EachPair (λ a b. a ≢ b) (flat_map (λ s. s) r.0)
                (first_apart (flat_map (λ s. s) r.0) r.1 (subst (EachPair (λ a b. a ≢ b)) (sym r.3)
                (C.pairs_filter (λ a b. a ≢ b) (λ slot. not (is_some (owner_of world.handles.attributes slot)))
                (range_with_len FIRST_SLOT world.handles.slots) (range_apart world.handles.slots FIRST_SLOT))));
          },
        )
