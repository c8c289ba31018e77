-- The places where a maximal interval may begin, and those where one does.
use Rattle.w16_model.proofs
use proofs.Common as C
use proofs.Gaps as M
use Rattle.std.specs.List.{AllByRecursion as Each}
use proofs.Common.{◌≡◌, ℕ, ◌-◌, ◌<◌, ◌≤◌, ◌⊎◌, inl, inr, ⊎_elim, Bool, true, false, cond, ◌&&◌, nat_lt, IsTrue, List, [], ◌∷◌, map, filter, max, refl, sym, ap, ◌∙◌, subst, arith, Contains, suc, Block, Span, block_end, first_from, starts, spans_from, longest_hole}
use proofs.Common.{is_any, IsGapOf}
use proofs.Gaps.{Each-at, Member, last_to}
use proofs.Maximal.{gap_around, gap_from}

pub member_map : {X Y : Type 0} (f : X → Y) (xs : List X) (x : X) → Member x xs → Member (f x) (map f xs)
member_map f [] x m = absurd m
member_map f (y ∷ ys) x (inl e) = inl (ap f e)
member_map f (y ∷ ys) x (inr m) = inr (member_map f ys x m)

pub contains_member : {X : Type 0} (xs : List X) (x : X) → Member x xs → Contains xs x
contains_member [] x m = absurd m
contains_member (y ∷ ys) x (inl e) = (0, omega arith, sym e)
contains_member (y ∷ ys) x (inr m) = let at = contains_member ys x m in (suc at.0, omega (arith, at.1), at.2)

module _ (test : Block → Bool) where
  last_turn : (lo : ℕ) (x : Block) (ys : List Block) (t u : Bool) (w : ℕ) → Member w (lo ∷ map block_end ys) → Member (cond (t && u) (max (block_end x) w) w) (lo ∷ map block_end (cond {A = List Block} t (x ∷ ys) ys))
  last_turn lo x ys true true w m = elim (C.cases_lt (block_end x) w) [
    | inl l ↦ let same : max (block_end x) w ≡ w = omega arith in subst (λ v. Member v (lo ∷ block_end x ∷ map block_end ys)) (sym same) (elim m [ inl e ↦ inl e | inr n ↦ inr (inr n) ])
    | inr l ↦ let same : max (block_end x) w ≡ block_end x = omega arith in inr (inl same)
  ]
  last_turn lo x ys true false w m = elim m [ inl e ↦ inl e | inr n ↦ inr (inr n) ]
  last_turn lo x ys false u w m = m

  -- the last place where a block ends is one where an interval may begin
  last_member : (lo : ℕ) (xs : List Block) (p : ℕ) → Member (last_to test lo xs p) (starts test lo xs)
  last_member lo [] p = inl refl
  last_member lo (x ∷ xs) p = last_turn lo x (filter test xs) (test x) (C.nat_le (block_end x) p) (last_to test lo xs p) (last_member lo xs p)

module _ (lo hi : ℕ) (xs : List Block) (placed : C.ArePlaced lo hi xs) where
  pub inside : (x : Block) → Member x xs → (lo ≤ x.at) × (0 < x.size) × (block_end x ≤ hi)
  inside = Each-at _ xs (M.Each-from_All _ xs placed.inside)

  pub sized : (x : Block) → Member x xs → 0 < x.size
  sized x m = (inside x m).1

  pub two : (x y : Block) → Member x xs → Member y xs → (x ≡ y) ⊎ C.Misses x.at x.size y.at (block_end y)
  two x y m n = Each-at _ xs (Each-at _ xs (M.each_two (λ x y. C.Misses x.at x.size y.at (block_end y)) (λ x y. ⊎_elim inr inl) xs (M.EachPair-from_AllPairs _ xs placed.apart)) y n) x m

  module _ (test : Block → Bool) where
    -- a place at or behind which each block begins or ends
    abbrev pub MayBegin : ℕ → Type 0
    MayBegin a = (lo ≤ a) × (a ≤ last_to test lo xs a) × ((x : Block) → Member x xs → IsTrue (test x) → (block_end x ≤ a) ⊎ (a ≤ x.at))

    pub end_begins : (y : Block) → Member y xs → IsTrue (test y) → MayBegin (block_end y)
    end_begins y n u = (
      (let i : (lo ≤ y.at) × (0 < y.size) × (block_end y ≤ hi) = inside y n in omega arith),
      Each-at _ xs (M.last_to-above test lo xs (block_end y) (last_to test lo xs (block_end y)) (omega arith)).1 y n u (omega arith),
      λ x m t. elim (two x y m n) [
        | inl e ↦ inl (subst (λ (z : Block). block_end z ≤ block_end y) (sym e) (omega arith))
        | inr (inl f) ↦ inl (omega (arith, f))
        | inr (inr f) ↦ inr f
      ],
    )

    pub begins : Each MayBegin (starts test lo xs)
    begins = (
      (omega arith, (M.last_to-above test lo xs lo (last_to test lo xs lo) (omega arith)).0, λ x m t. inr (inside x m).0),
      M.Each-of_map MayBegin block_end (filter test xs) (M.Each-filter (λ y. MayBegin (block_end y)) test xs (M.Each-from (λ y. IsTrue (test y) → MayBegin (block_end y)) xs end_begins)),
    )

    -- where bytes follow before the next block, one begins
    pub gap_begins : (a : ℕ) → MayBegin a → a < first_from test hi xs a → IsGapOf test lo hi xs a (first_from test hi xs a)
    gap_begins a may some =
        let to_e : (first_from test hi xs a ≤ hi) × Each (λ x. IsTrue (test x) → a ≤ x.at → first_from test hi xs a ≤ x.at) xs = M.first_from-below test hi xs a (first_from test hi xs a) (omega arith) in
        gap_from test lo hi xs sized a some may.1 (λ x m t. elim (may.2 x m t) [ inl k ↦ inl k | inr k ↦ inr (omega (arith, Each-at _ xs to_e.1 x m t k, some)) ]) may.0

    -- a maximal interval begins where one may begin, and ends at the next block
    pub gap_is : (a b : ℕ) → IsGapOf test lo hi xs a b → (last_to test lo xs a ≡ a) × (first_from test hi xs a ≡ b)
    gap_is a b gap = by_gap (last_to test lo xs a) (gap_around test lo hi xs sized a b gap.some gap.clear)
      where
        by_gap : (s : ℕ) → IsGapOf test lo hi xs s (first_from test hi xs s) × (s ≤ a) × (b ≤ first_from test hi xs s) → (s ≡ a) × (first_from test hi xs a ≡ b)
        by_gap s around = let same : (s ≡ a) × (first_from test hi xs s ≡ b) = gap.maximal s (first_from test hi xs s) around.1 around.2 around.0.clear in
            (same.0, ap (first_from test hi xs) (sym same.0) ∙ same.1)

    abbrev span_at : ℕ → Span
    span_at a = record { from = a; to = first_from test hi xs a }

    pub spans_are : C.AreAllOf test lo hi xs (spans_from test hi xs (starts test lo xs))
    spans_are = record {
      each = λ a b gap.
          let is : (last_to test lo xs a ≡ a) × (first_from test hi xs a ≡ b) = gap_is a b gap in
          let start : Member a (starts test lo xs) = subst (λ v. Member v (starts test lo xs)) is.0 (last_member test lo xs a) in
          let listed : Member (span_at a) (filter (λ (s : Span). nat_lt s.from s.to) (map span_at (starts test lo xs))) =
          M.filter_member (λ (s : Span). nat_lt s.from s.to) (map span_at (starts test lo xs)) (span_at a) (member_map span_at (starts test lo xs) a start) (C.lt-ltb a (first_from test hi xs a) (omega (arith, gap.some, is.1))) in
          subst (λ v. Contains (spans_from test hi xs (starts test lo xs)) (record { from = a; to = v })) is.1 (contains_member (spans_from test hi xs (starts test lo xs)) (span_at a) listed);
      only = M.All-from_Each (λ (s : Span). IsGapOf test lo hi xs s.from s.to) (spans_from test hi xs (starts test lo xs))
          (M.Each-filter (λ (s : Span). IsGapOf test lo hi xs s.from s.to) (λ (s : Span). nat_lt s.from s.to) (map span_at (starts test lo xs))
          (M.Each-of_map (λ (s : Span). IsTrue (nat_lt s.from s.to) → IsGapOf test lo hi xs s.from s.to) span_at (starts test lo xs)
          (M.Each-map MayBegin (λ a. IsTrue (nat_lt a (first_from test hi xs a)) → IsGapOf test lo hi xs a (first_from test hi xs a)) (λ a may t. gap_begins a may (C.ltb-true a (first_from test hi xs a) t)) (starts test lo xs) begins)));
    }

  pub hole_is_longest : C.HoleIsLongest lo hi xs
  hole_is_longest = record {
    none_longer = λ a b hole.
        let is : (last_to is_any lo xs a ≡ a) × (first_from is_any hi xs a ≡ b) = gap_is is_any a b hole in
        let reached : first_from is_any hi xs (last_to is_any lo xs a) - last_to is_any lo xs a ≤ longest_hole lo hi xs = M.last_to-start is_any (λ s. first_from is_any hi xs s - s) lo xs a in
        subst (λ v. v - a ≤ longest_hole lo hi xs) is.1 (subst (λ v. first_from is_any hi xs v - v ≤ longest_hole lo hi xs) is.0 reached);
    one_as_long = λ some.
        let best : (n : ℕ) × MayBegin is_any n × (first_from is_any hi xs n - n ≡ longest_hole lo hi xs) = M.largest_reached (λ s. first_from is_any hi xs s - s) (MayBegin is_any) (starts is_any lo xs) (begins is_any) some in
        (best.0, first_from is_any hi xs best.0, gap_begins is_any best.0 best.1 (omega (arith, best.2, some)), best.2);
  }

pub gap_list_law : C.GapListLaw
gap_list_law lo hi xs placed = (spans_are lo hi xs placed _, spans_are lo hi xs placed _)
