-- What is looked up in the cells is told by the list of holes.
use Rattle.w16_holes.proofs
use proofs.Common as C
use proofs.Common.{ℕ, zero, suc, ◌≡◌, ◌≢◌, ◌<◌, ◌≤◌, ◌+◌, ◌*◌, ◌-◌, max, List, [], ◌∷◌, map, nat_le, Some, arith, refl, sym, ap, ◌∙◌, inl, inr, slice_index, fold, cases_lt, lt-ltb, le-ltb, lt-leb, eqb_tells, length_to, spans, IsApart}
use proofs.{Units.up, Change.IsApart-tail}

-- the lowest hole of n bytes, or of one
lowest_from : (g lo n : ℕ) (ns : List ℕ) (i : ℕ) → C.option_map (λ k. lo + g * k) (C.position_from (nat_le (max n 1)) i ns) ≡ C.lowest n (spans g (lo + g * i) ns)
lowest_from g lo n [] i = refl
lowest_from g lo n (m ∷ ms) i =
    let u = lo + g * i in
    let e : i + 1 ≡ suc i = omega arith in
    let h : lo + g * i + g ≡ lo + g * suc i = omega arith in
    let f : lo + g * i + m - (lo + g * i) ≡ m = omega arith in
    elim (cases_lt m (max n 1)) [
      | inl short ↦ elim (cases_lt (lo + g * i) (lo + g * i + m)) [
        | inl lt ↦ rw (lt-ltb (lo + g * i) (lo + g * i + m) lt, f, lt-leb n m (omega arith), lt-leb (max n 1) m short, e, h) (lowest_from g lo n ms (suc i))
        | inr le ↦ rw (le-ltb (lo + g * i) (lo + g * i + m) le, lt-leb (max n 1) m short, e, h) (lowest_from g lo n ms (suc i))
      ]
      | inr long ↦ let lt : lo + g * i < lo + g * i + m = omega arith in rw (lt-ltb (lo + g * i) (lo + g * i + m) lt, f, C.le-leb n m (omega arith), C.le-leb (max n 1) m long) refl
    ]

pub lowest_is : (g lo n : ℕ) (ns : List ℕ) → C.option_map (λ k. lo + g * k) (C.position (nat_le (max n 1)) ns) ≡ C.lowest n (spans g lo ns)
lowest_is g lo n ns =
    let e : lo + g * 0 ≡ lo = omega arith in
    rw (C.position_from-zero (nat_le (max n 1)) ns) (rw e at (lowest_from g lo n ns 0))

-- that hole lies inside
pub lowest_inside : (g size n : ℕ) (ns : List ℕ) (k : ℕ) → Some k ≡ C.position (nat_le (max n 1)) ns → C.IsInside g size ns → g * k < size
lowest_inside g size n ns k is inside =
    let told = C.position-Some (nat_le _) ns k 0 (sym is) in
    let long = C.leb-true (max n 1) (slice_index ns k) told.1 in
    let r = inside.inside k (omega arith) in omega arith

longest_from : (g : ℕ) (ns : List ℕ) (u a : ℕ) → fold max a ns ≡ fold max a (map C.size_of (spans g u ns))
longest_from g [] u a = refl
longest_from g (m ∷ ms) u a =
    let f : u + m - u ≡ m = omega arith in
    elim (cases_lt u (u + m)) [
      | inl lt ↦ rw (lt-ltb u (u + m) lt, f) (longest_from g ms (u + g) _)
      | inr le ↦ let z : max a m ≡ a = omega arith in rw (le-ltb u (u + m) le, z) (longest_from g ms (u + g) a)
    ]

pub longest_is : (g : ℕ) (ns : List ℕ) (u : ℕ) → fold max 0 ns ≡ C.longest (spans g u ns)
longest_is g ns u = longest_from g ns u 0

-- by address
are_holes_from : (g : ℕ) (ns : List ℕ) (u low top : ℕ) → IsApart g ns → ((j : ℕ) → 0 < slice_index ns j → low ≤ u + g * j) → ((j : ℕ) → 0 < slice_index ns j → u + g * j + slice_index ns j ≤ top)
    → C.AreHoles low top (spans g u ns)
are_holes_from g [] u low top apart from to = tt
are_holes_from g (m ∷ ms) u low top apart from to =
    let rest : (j : ℕ) → 0 < slice_index ms j → u + g + g * j + slice_index ms j ≤ top = λ j has. let r : u + g * suc j + slice_index ms j ≤ top = to (suc j) has in omega arith in
    elim (cases_lt u (u + m)) [
      | inl lt ↦
          let first = from 0 (omega arith) in
          let end = to 0 (omega arith) in
          rw (lt-ltb u (u + m) lt) (
            omega arith,
            lt,
            omega arith,
            are_holes_from g ms (u + g) _ top (IsApart-tail g m ms apart) (λ j has. let r = apart.apart 0 (suc j) (omega arith) (omega arith) has in omega arith) rest,
          )
      | inr le ↦ rw (le-ltb u (u + m) le) (are_holes_from g ms (u + g) low top (IsApart-tail g m ms apart) (λ j has. let r = from (suc j) has in omega arith) rest)
    ]

pub are_holes : (g : ℕ) (ns : List ℕ) (lo hi : ℕ) → lo ≤ hi → IsApart g ns → C.IsInside g (hi - lo) ns → C.AreHoles lo hi (spans g lo ns)
are_holes g ns lo hi le apart inside = are_holes_from g ns lo lo hi apart (λ j has. omega arith) (λ j has. let r = inside.inside j has in omega arith)

-- where a hole begins
at_before : (g : ℕ) (ns : List ℕ) (u a : ℕ) → a < u → C.length_at a (spans g u ns) ≡ 0
at_before g [] u a lt = refl
at_before g (m ∷ ms) u a lt = elim (cases_lt u (u + m)) [
  | inl some ↦ elim (eqb_tells u a) [
    | inl same ↦ let e = same.1 in absurd (omega arith)
    | inr other ↦ rw (lt-ltb u (u + m) some, other.0) (at_before g ms (u + g) a (omega arith))
  ]
  | inr none ↦ rw (le-ltb u (u + m) none) (at_before g ms (u + g) a (omega arith))
]

pub at_is : (g : ℕ) → 0 < g → (ns : List ℕ) (u j a : ℕ) → u + g * j ≡ a → slice_index ns j ≡ C.length_at a (spans g u ns)
at_is g wide [] u j a e = refl
at_is g wide (m ∷ ms) u zero a e =
    let f : u + m - u ≡ m = omega arith in
    elim (cases_lt u (u + m)) [
      | inl some ↦ rw (lt-ltb u (u + m) some, C.eq-eqb u a (omega arith), f) refl
      | inr none ↦ let z : m ≡ 0 = omega arith in rw (le-ltb u (u + m) none) (z ∙ sym (at_before g ms (u + g) a (omega arith)))
    ]
at_is g wide (m ∷ ms) u (suc j) a e = elim (cases_lt u (u + m)) [
  | inl some ↦ elim (eqb_tells u a) [
    | inl same ↦ let r = same.1 in absurd (omega arith)
    | inr other ↦ rw (lt-ltb u (u + m) some, other.0) (at_is g wide ms (u + g) j a (omega arith))
  ]
  | inr none ↦ rw (le-ltb u (u + m) none) (at_is g wide ms (u + g) j a (omega arith))
]

-- where a hole ends
to_none : (g : ℕ) (ns : List ℕ) (u a : ℕ) → ((j : ℕ) → 0 < slice_index ns j → u + g * j + slice_index ns j ≢ a) → length_to a (spans g u ns) ≡ 0
to_none g [] u a differ = refl
to_none g (m ∷ ms) u a differ =
    let rest = to_none g ms (u + g) a (λ j has e. differ (suc j) has (omega arith)) in
    elim (cases_lt u (u + m)) [
      | inl some ↦ elim (eqb_tells (u + m) a) [
        | inl same ↦ let r = same.1 in absurd (differ 0 (omega arith) (omega arith))
        | inr other ↦ rw (lt-ltb u (u + m) some, other.0) rest
      ]
      | inr none ↦ rw (le-ltb u (u + m) none) rest
    ]

to_some : (g : ℕ) (ns : List ℕ) (u k a : ℕ) → IsApart g ns → 0 < slice_index ns k → u + g * k + slice_index ns k ≡ a → length_to a (spans g u ns) ≡ slice_index ns k
to_some g [] u k a apart has e = absurd (omega arith)
to_some g (m ∷ ms) u zero a apart has e =
    let f : u + m - u ≡ m = omega arith in
    rw (lt-ltb u (u + m) (omega arith), C.eq-eqb (u + m) a (omega arith), f) refl
to_some g (m ∷ ms) u (suc k) a apart has e =
    let rest = to_some g ms (u + g) k a (IsApart-tail g m ms apart) has (omega arith) in
    elim (cases_lt u (u + m)) [
      | inl some ↦ elim (eqb_tells (u + m) a) [
        | inl same ↦ let r = same.1 in let s = apart.apart 0 (suc k) (omega arith) (omega arith) has in absurd (omega arith)
        | inr other ↦ rw (lt-ltb u (u + m) some, other.0) rest
      ]
      | inr none ↦ rw (le-ltb u (u + m) none) rest
    ]

pub to_is : (g u : ℕ) (ns : List ℕ) (a p k : ℕ) → u + g * p ≡ a → IsApart g ns → C.IsBeginOf g p ns k → g * p - g * k ≡ length_to a (spans g u ns)
to_is g u ns a p k at apart begin = elim begin [
  | inl ends ↦ let e = ends.2 in let r = to_some g ns u k a apart ends.1 (omega arith) in omega arith
  | inr is ↦
      let e = ap (λ n. g * n) is.0 in
      let r = to_none g ns u a (λ j has f. elim (cases_lt j p) [
        | inl lt ↦ elim (is.1 j lt has) [
          | inl less ↦ omega arith
          | inr more ↦ omega arith
        ]
        | inr le ↦ let r = up g p j le in omega arith
      ]) in omega arith
]
