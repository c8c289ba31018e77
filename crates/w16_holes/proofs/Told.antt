-- What the list of holes tells of the cells.
use Rattle.w16_holes.proofs
use proofs.Common as C
use proofs.Common.{ℕ, zero, suc, ◌≡◌, ◌<◌, ◌≤◌, ◌+◌, ◌*◌, ◌-◌, ◌^◌, ◌⊎◌, List, [], ◌∷◌, length, set, replicate, Some, None, arith, refl, sym, ap, ◌∙◌, subst, inl, inr, slice_index, cases_lt, lt-ltb, le-ltb, get_or-set_other, length-set, last_below, Range, taken, joined, spans, IsApart}
use proofs.Common.{IsInside, IsBeginOf}
use proofs.Units.{up, above, below, at_most}
use proofs.Change.{IsApart-set, IsInside-set, taken_end, taken_inside, joined_is}

-- what `last_below` answers
abbrev pub IsLastOf : List ℕ → ℕ → C.Option ℕ → Type 0
IsLastOf ns i (Some k) = (k < i) × (0 < slice_index ns k) × ((j : ℕ) → k < j → j < i → slice_index ns j ≡ 0)
IsLastOf ns i None = (j : ℕ) → j < i → slice_index ns j ≡ 0

last_more : (ns : List ℕ) (i : ℕ) (r : C.Option ℕ) → slice_index ns i ≡ 0 → IsLastOf ns i r → IsLastOf ns (suc i) r
last_more ns i (Some k) z is = let lt = is.0 in (
  omega arith,
  is.1,
  λ j from to. elim (cases_lt j i) [
    | inl before ↦ is.2 j from before
    | inr at ↦ let e : i ≡ j = omega arith in subst (λ n. slice_index ns n ≡ 0) e z
  ],
)
last_more ns i None z is = λ j to. elim (cases_lt j i) [
  | inl before ↦ is j before
  | inr at ↦ let e : i ≡ j = omega arith in subst (λ n. slice_index ns n ≡ 0) e z
]

pub last_told : (ns : List ℕ) (i : ℕ) → IsLastOf ns i (last_below ns i)
last_told ns zero = λ j lt. absurd (omega arith)
last_told ns (suc i) = elim (cases_lt 0 _) [
  | inl some ↦ rw (lt-ltb 0 (slice_index ns i) some) (omega arith, some, λ j from to. absurd (omega arith))
  | inr none ↦ rw (le-ltb 0 (slice_index ns i) none) (last_more ns i _ (omega arith) (last_told ns i))
]

get_or-replicate_zero : (n j : ℕ) → slice_index (replicate n 0) j ≡ 0
get_or-replicate_zero zero j = refl
get_or-replicate_zero (suc n) zero = refl
get_or-replicate_zero (suc n) (suc j) = get_or-replicate_zero n j

pub IsInside-wide : (g size top : ℕ) (ns : List ℕ) → size ≤ top → IsInside g size ns → IsInside g top ns
IsInside-wide g size top ns le inside = record {
  inside = λ k has. let r = inside.inside k has in omega arith;
}

-- the cell of a hole
free_cell : (g : ℕ) (ns : List ℕ) (u a b : ℕ) → a < b → C.IsFree a b (spans g u ns) → (k : ℕ) × (u + g * k ≤ a) × (b ≤ u + g * k + slice_index ns k)
free_cell g [] u a b some free = absurd free
free_cell g (m ∷ ms) u a b some free = elim (cases_lt u (u + m)) [
  | inl lt ↦ elim (rw (lt-ltb u (u + m) lt) at free) [
    | inl here ↦ let from = here.0 in let to = here.1 in (0, omega arith, omega arith)
    | inr rest ↦ let r = free_cell g ms (u + g) a b some rest in let from = r.1 in let to = r.2 in (suc r.0, omega arith, omega arith)
  ]
  | inr le ↦ let r = free_cell g ms (u + g) a b some (rw (le-ltb u (u + m) le) at free) in let from = r.1 in let to = r.2 in (suc r.0, omega arith, omega arith)
]

pub used_cells : (g : ℕ) (ns : List ℕ) (u a b : ℕ) → C.IsUsed a b (spans g u ns) → (j : ℕ) → 0 < slice_index ns j → (u + g * j + slice_index ns j ≤ a) ⊎ (b ≤ u + g * j)
used_cells g [] u a b used j some = absurd (omega arith)
used_cells g (m ∷ ms) u a b used zero some =
    let here = rw (lt-ltb u (u + m) (omega arith)) at used in
    elim here.0 [
      | inl behind ↦ inl (omega arith)
      | inr before ↦ inr (omega arith)
    ]
used_cells g (m ∷ ms) u a b used (suc j) some = elim (cases_lt u (u + m)) [
  | inl lt ↦ elim (used_cells g ms (u + g) a b (rw (lt-ltb u (u + m) lt) at used).1 j some) [
    | inl behind ↦ inl (omega arith)
    | inr before ↦ inr (omega arith)
  ]
  | inr le ↦ elim (used_cells g ms (u + g) a b (rw (le-ltb u (u + m) le) at used) j some) [
    | inl behind ↦ inl (omega arith)
    | inr before ↦ inr (omega arith)
  ]
]

-- the hole that ends q units from the start
module _ (g : ℕ) (ns : List ℕ) (q : ℕ) (apart : IsApart g ns) where
  module _ (k : ℕ) (is : Some k ≡ last_below ns q) where
    last : IsLastOf ns q (Some k)
    last = subst (IsLastOf ns q) (sym is) (last_told ns q)

    pub begin_lt : k < q
    begin_lt = last.0

    pub begin_ends : g * k + slice_index ns k ≡ g * q → IsBeginOf g q ns k
    begin_ends e = inl (last.0, last.1, e)

    pub begin_other : (g * k + slice_index ns k ≡ g * q → ⊥) → IsBeginOf g q ns q
    begin_other differ = inr (
      refl,
      λ j lt has. elim (cases_lt j k) [
        | inl before ↦ let less = up g k q (omega (arith, last.0)) in let r = apart.apart j k has before last.1 in inl (omega arith)
        | inr from ↦ elim (cases_lt k j) [
          | inl behind ↦ let z = last.2 j behind lt in absurd (omega arith)
          | inr to ↦
              let e : k ≡ j = omega arith in
              subst (λ (n : ℕ). (g * n + slice_index ns n < g * q) ⊎ (g * q < g * n + slice_index ns n)) e (elim (cases_lt (g * k + slice_index ns k) (g * q)) [
                | inl less ↦ inl less
                | inr at ↦ elim (cases_lt (g * q) (g * k + slice_index ns k)) [
                  | inl more ↦ inr more
                  | inr le ↦ absurd (differ (omega arith))
                ]
              ])
        ]
      ],
    )

  pub begin_none : None ≡ last_below ns q → IsBeginOf g q ns q
  begin_none none =
      let all : IsLastOf ns q None = subst (IsLastOf ns q) (sym none) (last_told ns q) in
      inr (refl, λ j lt has. let z = all j lt in absurd (omega arith))

-- [a, b) lies in a hole, and begins p units from the start of the cells, which is u; it ends after q units
pub record IsTake (g u size : ℕ) (ns : List ℕ) (a b p q : ℕ) : Type 0 where
  pub wide : 0 < g
  pub apart : IsApart g ns
  pub inside : IsInside g size ns
  pub long : size < g * length ns
  pub at : u + g * p ≡ a
  pub end : u + g * q ≡ b
  pub some : a < b
  pub free : C.IsFree a b (spans g u ns)

module _ {g u size : ℕ} {ns : List ℕ} {a b p q : ℕ} (t : IsTake g u size ns a b p q) where
  free_from : (k : ℕ) → u + g * k ≤ a → k < p + 1
  free_from k le = let r = at_most g k p t.wide (omega arith) in omega arith

  pub take_none : None ≡ last_below ns (p + 1) → ⊥
  take_none none =
      let told : IsLastOf ns (p + 1) None = subst (IsLastOf ns (p + 1)) (sym none) (last_told ns (p + 1)) in
      let f = free_cell g ns u a b t.some t.free in let from = f.1 in let to = f.2 in
      let z = told f.0 (free_from f.0 from) in omega arith

  pub take_end : g * q ≤ size
  take_end =
      let f = free_cell g ns u a b t.some t.free in let from = f.1 in let to = f.2 in
      let i = t.inside.inside f.0 (omega arith) in omega arith

  pub take_next : q < length ns
  take_next = let le = take_end in below g q (length ns) (omega arith)

  module _ (k : ℕ) (is : Some k ≡ last_below ns (p + 1)) where
    told : IsLastOf ns (p + 1) (Some k)
    told = subst (IsLastOf ns (p + 1)) (sym is) (last_told ns (p + 1))

    pub take_from : g * k ≤ g * p
    take_from = let lt = told.0 in up g k p (omega arith)

    pub take_to : g * q ≤ g * k + slice_index ns k
    take_to =
        let f = free_cell g ns u a b t.some t.free in let from = f.1 in let to = f.2 in
        let first = free_from f.0 from in
        let start = take_from in
        elim (cases_lt f.0 k) [
          | inl before ↦ let r = t.apart.apart f.0 k (omega arith) before told.1 in absurd (omega arith)
          | inr at_least ↦ elim (cases_lt k f.0) [
            | inl behind ↦ let z = told.2 f.0 behind first in absurd (omega arith)
            | inr le ↦ let e : f.0 ≡ k = omega arith in subst (λ (n : ℕ). g * q ≤ g * n + slice_index ns n) e (omega arith)
          ]
        ]

    pub take_inside : g * k + slice_index ns k ≤ size
    take_inside = t.inside.inside k told.1

    pub take_lt : k < length ns
    take_lt = let i = take_inside in below g k (length ns) (omega arith)

    kept : List ℕ
    kept = set ns k (g * p - g * k)

    -- the hole's cell shortened
    shorter : IsApart g (set ns k (g * p - g * k))
    shorter =
        let to = take_to in let from = take_from in
        IsApart-set g ns k (g * p - g * k) take_lt t.apart (λ has j lt other. t.apart.apart j k other lt told.1)
        (λ has j lt other. let r = t.apart.apart k j told.1 lt other in omega arith)

    end_off : g * q ≡ g * k + slice_index ns k → slice_index ns q ≡ 0
    end_off e = elim (cases_lt 0 (slice_index ns q)) [
      | inl has ↦ let positive = told.1 in let r = t.apart.apart k q told.1 (below g k q (omega arith)) has in absurd (omega arith)
      | inr none ↦ omega arith
    ]

    pub k_below_q : k < q
    k_below_q = let from = take_from in below g k q (omega arith)

    -- nothing is left behind
    end_same : g * q ≡ g * k + slice_index ns k → set (set ns k (g * p - g * k)) q (g * k + slice_index ns k - g * q) ≡ set ns k (g * p - g * k)
    end_same e =
        let less = k_below_q in
        let z : slice_index (set ns k (g * p - g * k)) q ≡ 0 = get_or-set_other ns k q (g * p - g * k) 0 (omega arith) ∙ end_off e in
        let f : g * k + slice_index ns k - g * q ≡ slice_index (set ns k (g * p - g * k)) q = omega arith in
        ap (set (set ns k (g * p - g * k)) q) f ∙ C.set-get_or (set ns k (g * p - g * k)) q 0

    pub take_spans : spans g u (set (set ns k (g * p - g * k)) q (g * k + slice_index ns k - g * q)) ≡ taken a b (spans g u ns)
    take_spans =
        (elim (cases_lt (g * q) (g * k + slice_index ns k)) [
          | inl lt ↦ taken_inside g ns u k (g * p) q t.apart take_from (omega arith) lt take_next
          | inr le ↦ let to = take_to in let e : g * q ≡ g * k + slice_index ns k = omega arith in ap (spans g u) (end_same e) ∙ taken_end g ns u k (g * p) (g * q) t.apart take_from (omega arith) e
        ]) ∙ ap (λ (x : ℕ). taken x (u + g * q) (spans g u ns)) t.at ∙ ap (λ (x : ℕ). taken a x (spans g u ns)) t.end

    pub take_apart : IsApart g (set (set ns k (g * p - g * k)) q (g * k + slice_index ns k - g * q))
    take_apart =
        let from = take_from in let to = take_to in let positive = told.1 in let less = k_below_q in
        let wide_enough = length-set ns k (g * p - g * k) in
        let next = take_next in
        let here = C.get_or-set_same ns k (g * p - g * k) 0 take_lt in
        IsApart-set g (set ns k (g * p - g * k)) q (g * k + slice_index ns k - g * q) (omega arith) shorter
        (λ has j lt other. elim (cases_lt j k) [
          | inl before ↦ let e = get_or-set_other ns k j (g * p - g * k) 0 (omega arith) in let r = t.apart.apart j k (omega arith) before positive in omega arith
          | inr from_k ↦ elim (cases_lt k j) [
            | inl behind ↦ let e = get_or-set_other ns k j (g * p - g * k) 0 (omega arith) in let r = t.apart.apart k j positive behind (omega arith) in let s = up g j q (omega arith) in absurd (omega arith)
            | inr le ↦ let e : k ≡ j = omega arith in subst (λ (i : ℕ). g * i + slice_index (set ns k (g * p - g * k)) i < g * q) e (omega arith)
          ]
        ])
        (λ has j lt other. let e = get_or-set_other ns k j (g * p - g * k) 0 (omega arith) in let r = t.apart.apart k j positive (omega arith) (omega arith) in omega arith)

    pub take_kept : IsInside g size (set (set ns k (g * p - g * k)) q (g * k + slice_index ns k - g * q))
    take_kept =
        let from = take_from in let to = take_to in let i = take_inside in let last = take_end in
        let wide_enough = length-set ns k (g * p - g * k) in
        let next = take_next in
        IsInside-set g (set ns k (g * p - g * k)) q (g * k + slice_index ns k - g * q) (omega arith) size
        (IsInside-set g ns k (g * p - g * k) take_lt size t.inside (λ has. omega arith)) (λ has. omega arith)

-- [a, b) meets no hole, and begins p units from the start of the cells, which is u; it ends after q units, and k is where a hole begins that ends at a, or p
pub record IsPut (g u size : ℕ) (ns : List ℕ) (a b p q k : ℕ) : Type 0 where
  pub wide : 0 < g
  pub apart : IsApart g ns
  pub inside : IsInside g size ns
  pub long : size < g * length ns
  pub at : u + g * p ≡ a
  pub end : u + g * q ≡ b
  pub some : a < b
  pub last : g * q ≤ size
  pub used : C.IsUsed a b (spans g u ns)
  pub begin : IsBeginOf g p ns k

module _ {g u size : ℕ} {ns : List ℕ} {a b p q k : ℕ} (t : IsPut g u size ns a b p q k) where
  each : (j : ℕ) → 0 < slice_index ns j → (g * j + slice_index ns j ≤ g * p) ⊎ (g * q ≤ g * j)
  each j has = elim (used_cells g ns u a b t.used j has) [
    | inl behind ↦ inl (omega arith)
    | inr before ↦ inr (omega arith)
  ]

  pub put_next : q < length ns
  put_next = below g q (length ns) (omega arith)

  -- nothing begins in what is put
  off : (j : ℕ) → p ≤ j → j < q → slice_index ns j ≡ 0
  off j from to = elim (cases_lt 0 (slice_index ns j)) [
    | inl has ↦ let r = up g p j from in let s = above g j q to in elim (each j has) [
      | inl behind ↦ omega arith
      | inr before ↦ absurd (omega arith)
    ]
    | inr none ↦ omega arith
  ]

  begin_from : k ≤ p
  begin_from = elim t.begin [
    | inl ends ↦ let lt = ends.0 in omega arith
    | inr is ↦ let e = is.0 in omega arith
  ]

  pub put_from : g * k ≤ g * p
  put_from = up g k p begin_from

  p_below_q : p < q
  p_below_q = below g p q (omega arith)

  pub put_before : k < q
  put_before = let from = begin_from in let less = p_below_q in omega arith

  here : slice_index ns k ≡ g * p - g * k
  here = elim t.begin [
    | inl ends ↦ let e = ends.2 in omega arith
    | inr is ↦ let e : p ≡ k = sym is.0 in let z : slice_index ns k ≡ 0 = subst (λ (n : ℕ). slice_index ns n ≡ 0) e (off p (omega arith) p_below_q) in let f = ap (λ (n : ℕ). g * n) e in omega arith
  ]

  before_it : (j : ℕ) → j < k → 0 < slice_index ns j → g * j + slice_index ns j < g * p
  before_it j lt has = elim t.begin [
    | inl ends ↦ let r = t.apart.apart j k has lt ends.1 in let e = ends.2 in omega arith
    | inr is ↦ let e = is.0 in elim (is.1 j (omega arith) has) [
      | inl less ↦ less
      | inr past ↦ elim (each j has) [
        | inl le ↦ absurd (omega arith)
        | inr ge ↦ let r = up g j p (omega arith) in absurd (omega arith)
      ]
    ]
  ]

  between : (j : ℕ) → k < j → j < q → slice_index ns j ≡ 0
  between j lt to = elim (cases_lt j p) [
    | inl before ↦ elim t.begin [
      | inl ends ↦ let e = ends.2 in elim (cases_lt 0 (slice_index ns j)) [
        | inl has ↦ let r = t.apart.apart k j ends.1 lt has in let s = up g j p (omega arith) in absurd (omega arith)
        | inr none ↦ omega arith
      ]
      | inr is ↦ let e = is.0 in absurd (omega arith)
    ]
    | inr from ↦ off j from to
  ]

  pub put_lt : k < length ns
  put_lt = let from = begin_from in let less = p_below_q in let next = put_next in omega arith

  pub put_spans : spans g u (set (set ns q 0) k (g * q + slice_index ns q - g * k)) ≡ joined a b (spans g u ns)
  put_spans =
      let both : spans g u (set (set ns q 0) k (g * q + slice_index ns q - g * k)) ≡ joined (u + g * p) (u + g * q) (spans g u ns) =
      joined_is g t.wide ns u k (g * p) q t.apart put_lt put_from (omega arith) here before_it between in
      both ∙ ap (λ (x : ℕ). joined x (u + g * q) (spans g u ns)) t.at ∙ ap (λ (x : ℕ). joined a x (spans g u ns)) t.end

  -- the hole above goes, the one below grows
  without : IsApart g (set ns q 0)
  without = IsApart-set g ns q 0 put_next t.apart (λ has. absurd (omega arith)) (λ has. absurd (omega arith))

  -- where the new hole ends
  pub put_end : g * q + slice_index ns q ≤ size
  put_end = elim (cases_lt 0 (slice_index ns q)) [
    | inl has ↦ t.inside.inside q has
    | inr none ↦ omega arith
  ]

  behind : (j : ℕ) → k < j → 0 < slice_index (set ns q 0) j → g * q + slice_index ns q < g * j
  behind j lt has =
      let zero_there = C.get_or-set_same ns q 0 0 put_next in
      elim (cases_lt j q) [
        | inl before ↦ let e = get_or-set_other ns q j 0 0 (omega arith) in let z = between j lt before in absurd (omega arith)
        | inr from ↦ elim (cases_lt q j) [
          | inl past ↦
              let e = get_or-set_other ns q j 0 0 (omega arith) in
              elim (cases_lt 0 (slice_index ns q)) [
                | inl some_there ↦ t.apart.apart q j some_there past (omega arith)
                | inr none ↦ let r = above g q j past in omega arith
              ]
          | inr to ↦
              let e : q ≡ j = omega arith in
              let z : slice_index (set ns q 0) j ≡ 0 = subst (λ (n : ℕ). slice_index (set ns q 0) n ≡ 0) e zero_there in absurd (omega arith)
        ]
      ]

  pub put_apart : IsApart g (set (set ns q 0) k (g * q + slice_index ns q - g * k))
  put_apart =
      let from = put_from in let lt = put_lt in let wide_enough = length-set ns q 0 in let less = p_below_q in let first = begin_from in
      IsApart-set g (set ns q 0) k (g * q + slice_index ns q - g * k) (omega arith) without
      (λ has j before other. let e = get_or-set_other ns q j 0 0 (omega arith) in elim t.begin [
        | inl ends ↦ let r = t.apart.apart j k (omega arith) before ends.1 in omega arith
        | inr is ↦ let f = ap (λ (n : ℕ). g * n) is.0 in let r = before_it j before (omega arith) in omega arith
      ])
      (λ has j after other. let r = behind j after other in omega arith)

  pub put_kept : IsInside g size (set (set ns q 0) k (g * q + slice_index ns q - g * k))
  put_kept =
      let from = put_from in let lt = put_lt in let wide_enough = length-set ns q 0 in let to = put_end in
      IsInside-set g (set ns q 0) k (g * q + slice_index ns q - g * k) (omega arith) size
      (IsInside-set g ns q 0 put_next size t.inside (λ has. absurd (omega arith))) (λ has. omega arith)

-- no hole where all cells are 0
spans_zeros : (g n u : ℕ) → spans g u (replicate n 0) ≡ []
spans_zeros g zero u = refl
spans_zeros g (suc n) u = let e : u + 0 ≡ u = omega arith in rw (e, le-ltb u u (omega arith)) (spans_zeros g n (u + g))

-- one hole, in the first cell
pub spans_one : (g n u m : ℕ) → spans g u (set (replicate (n + 1) 0) 0 m) ≡ C.add_span u (u + m) []
spans_one g n u m = let e : n + 1 ≡ suc n = omega arith in rw e (ap (C.add_span u (u + m)) (spans_zeros g n (u + g)))

-- the cells of a range that is one hole
pub AreCells-one : (r : Range) (n : ℕ) → 0 < r.grain → C.IsMultiple r.grain r.lo → r.lo ≤ r.hi → r.hi < 2 ^ 32 → r.hi - r.lo < r.grain * (n + 1) → C.LAST_END - r.lo < r.grain * (n + 1) → C.AreCells r (set (replicate (n + 1) 0) 0 (r.hi - r.lo))
AreCells-one r n some from ordered small long reserved =
    let zeros : List ℕ = replicate (n + 1) 0 in
    let all : length zeros ≡ n + 1 = C.length-replicate (n + 1) 0 in
    let same = length-set zeros 0 (r.hi - r.lo) in
    let none : (j : ℕ) → slice_index zeros j ≡ 0 = get_or-replicate_zero (n + 1) in
    record {
      some = some;
      from = from;
      ordered = ordered;
      small = small;
      long = subst (λ (m : ℕ). r.hi - r.lo < r.grain * m) (sym (same ∙ all)) long;
      reserved = subst (λ (m : ℕ). C.LAST_END - r.lo < r.grain * m) (sym (same ∙ all)) reserved;
      apart = IsApart-set r.grain zeros 0 _ (omega arith) (record { apart = λ k j has. let z = none k in absurd (omega arith) }) (λ has j lt. absurd (omega arith)) (λ has j lt other. let z = none j in absurd (omega arith));
      inside = IsInside-set r.grain zeros 0 _ (omega arith) _ (record { inside = λ k has. let z = none k in absurd (omega arith) }) (λ has. omega arith);
    }
