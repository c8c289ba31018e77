-- A part of a hole taken, and a span put, by cells.
use Rattle.w16_holes.proofs.Common.{ℕ, zero, suc, ◌≡◌, ◌<◌, ◌≤◌, ◌+◌, ◌*◌, ◌-◌, max, min, List, [], ◌∷◌, length, set, arith, refl, sym, ap, ◌∙◌, subst, inl, inr, slice_index, cases_lt, lt-ltb, le-ltb, get_or-set_same, get_or-set_other, Span, add_span, taken, joined, spans, IsApart, IsInside}
use Rattle.w16_holes.proofs.Units.{up}

add_some : (a b : ℕ) (ss : List Span) → a < b → add_span a b ss ≡ record { from = a; to = b } ∷ ss
add_some a b ss lt = rw (lt-ltb a b lt) refl

add_none : (a b : ℕ) (ss : List Span) → b ≤ a → add_span a b ss ≡ ss
add_none a b ss le = rw (le-ltb a b le) refl

-- an empty cell tells none
add_zero : (u m : ℕ) (ss : List Span) → m ≡ 0 → add_span u (u + m) ss ≡ ss
add_zero u m ss e = add_none u (u + m) ss (omega arith)

pub IsApart-tail : (g m : ℕ) (ms : List ℕ) → IsApart g (m ∷ ms) → IsApart g ms
IsApart-tail g m ms apart = record {
  apart = λ k j some lt other. let r = apart.apart (suc k) (suc j) some (omega arith) other in omega arith;
}

-- the first hole ends before another begins
first_below : (g m k : ℕ) (ms : List ℕ) → IsApart g (m ∷ ms) → 0 < m → 0 < slice_index ms k → m < g + g * k
first_below g m k ms apart some other = let r = apart.apart 0 (suc k) some (omega arith) other in omega arith

-- a cell set before all others
spans-set_first : (g : ℕ) (ms : List ℕ) (v i r : ℕ) → i < length ms → ((j : ℕ) → j ≤ i → slice_index ms j ≡ 0) → spans g v (set ms i r) ≡ add_span (v + g * i) (v + g * i + r) (spans g v ms)
spans-set_first g [] v i r lt none = absurd (omega arith)
spans-set_first g (m ∷ ms) v zero r lt none = let e : v + g * 0 ≡ v = omega arith in rw e (ap (add_span v (v + r)) (sym (add_zero v m _ (none 0 (omega arith)))))
spans-set_first g (m ∷ ms) v (suc i) r lt none =
    let z = none 0 (omega arith) in
    let e : v + g * suc i ≡ v + g + g * i = omega arith in
    rw e (add_zero v m _ z ∙ spans-set_first g ms (v + g) i r (omega arith) (λ j le. none (suc j) (omega arith))
    ∙ ap (add_span (v + g + g * i) (v + g + g * i + r)) (sym (add_zero v m _ z)))

-- `taken` and `joined`, by what stands first
taken_pass : (a b u m : ℕ) (ss : List Span) → (0 < m → u + m ≤ a) → taken a b (add_span u (u + m) ss) ≡ add_span u (u + m) (taken a b ss)
taken_pass a b u m ss le = elim (cases_lt 0 m) [
  | inl some ↦ rw (add_some u (u + m) ss (omega arith), add_some u (u + m) (taken a b ss) (omega arith), le-ltb a (u + m) (le some)) refl
  | inr none ↦ rw (add_none u (u + m) ss (omega arith), add_none u (u + m) (taken a b ss) (omega arith)) refl
]

taken_here : (a b u m : ℕ) (ss : List Span) → u ≤ a → a < u + m → taken a b (add_span u (u + m) ss) ≡ add_span u a (add_span b (u + m) ss)
taken_here a b u m ss from lt = rw (add_some u (u + m) ss (omega arith), lt-ltb a (u + m) lt) refl

joined_pass : (a b u m : ℕ) (ss : List Span) → (0 < m → u + m < a) → joined a b (add_span u (u + m) ss) ≡ add_span u (u + m) (joined a b ss)
joined_pass a b u m ss lt = elim (cases_lt 0 m) [
  | inl some ↦ rw (add_some u (u + m) ss (omega arith), add_some u (u + m) (joined a b ss) (omega arith), lt-ltb (u + m) a (lt some)) refl
  | inr none ↦ rw (add_none u (u + m) ss (omega arith), add_none u (u + m) (joined a b ss) (omega arith)) refl
]

-- up to the end of a hole; places count from where the cells begin
pub taken_end : (g : ℕ) (ns : List ℕ) (u k p q : ℕ) → IsApart g ns → g * k ≤ p → p < q → q ≡ g * k + slice_index ns k
    → spans g u (set ns k (p - g * k)) ≡ taken (u + p) (u + q) (spans g u ns)
taken_end g [] u k p q apart from some to = absurd (omega arith)
taken_end g (m ∷ ms) u zero p q apart from some to =
    let e : p - g * 0 ≡ p = omega arith in
    rw e (sym (taken_here (u + p) (u + q) u m _ (omega arith) (omega arith) ∙ ap (add_span u (u + p)) (add_none (u + q) (u + m) _ (omega arith))))
taken_end g (m ∷ ms) u (suc k) p q apart from some to =
    let e : p - g * suc k ≡ p - g - g * k = omega arith in
    let f : u + p ≡ u + g + (p - g) = omega arith in
    let h : u + q ≡ u + g + (q - g) = omega arith in
    let ih = taken_end g ms (u + g) k (p - g) (q - g) (IsApart-tail g m ms apart) (omega arith) (omega arith) (omega arith) in
    rw (e, f, h) (ap (add_span u (u + m)) ih ∙ sym (taken_pass _ _ u m _ (λ has. let r = first_below g m k ms apart has (omega arith) in omega arith)))

-- inside a hole
pub taken_inside : (g : ℕ) (ns : List ℕ) (u k p q : ℕ) → IsApart g ns → g * k ≤ p → p < g * q → g * q < g * k + slice_index ns k → q < length ns
    → spans g u (set (set ns k (p - g * k)) q (g * k + slice_index ns k - g * q)) ≡ taken (u + p) (u + g * q) (spans g u ns)
taken_inside g [] u k p q apart from some to long = absurd (omega arith)
taken_inside g (m ∷ ms) u zero p zero apart from some to long = absurd (omega arith)
taken_inside g (m ∷ ms) u zero p (suc i) apart from some to long =
    let e : p - g * 0 ≡ p = omega arith in
    let none : (j : ℕ) → j ≤ i → slice_index ms j ≡ 0 = λ j le. elim (cases_lt 0 _) [
      | inl has ↦ let r = first_below g m j ms apart (omega arith) has in let s = up g j i le in absurd (omega arith)
      | inr off ↦ omega arith
    ] in
    let f : u + g + g * i ≡ u + g * suc i = omega arith in
    let h : u + g * suc i + (g * 0 + m - g * suc i) ≡ u + m = omega arith in
    rw e (ap (add_span u (u + p)) (spans-set_first g ms (u + g) i _ (omega arith) none ∙ rw (f, h) refl) ∙ sym (taken_here (u + p) _ u m _ (omega arith) (omega arith)))
taken_inside g (m ∷ ms) u (suc k) p zero apart from some to long = absurd (omega arith)
taken_inside g (m ∷ ms) u (suc k) p (suc q) apart from some to long =
    let e : p - g * suc k ≡ p - g - g * k = omega arith in
    let f : u + p ≡ u + g + (p - g) = omega arith in
    let h : u + g * suc q ≡ u + g + g * q = omega arith in
    let l : g * suc k + slice_index ms k - g * suc q ≡ g * k + slice_index ms k - g * q = omega arith in
    let ih = taken_inside g ms (u + g) k (p - g) q (IsApart-tail g m ms apart) (omega arith) (omega arith) (omega arith) (omega arith) in
    rw (e, f, h, l) (ap (add_span u (u + m)) ih ∙ sym (taken_pass _ _ u m _ (λ has. let r = first_below g m k ms apart has (omega arith) in omega arith)))

-- before all holes
joined_before : (g : ℕ) (ms : List ℕ) (v a b : ℕ) → a ≤ b → ((j : ℕ) → 0 < slice_index ms j → b < v + g * j) → joined a b (spans g v ms) ≡ record { from = a; to = b } ∷ spans g v ms
joined_before g [] v a b le far = refl
joined_before g (m ∷ ms) v a b le far =
    elim (cases_lt 0 m) [
      | inl some ↦
          let r = far 0 some in
          rw (add_some v (v + m) (spans g (v + g) ms) (omega arith), le-ltb (v + m) a (omega arith), lt-ltb b v (omega arith)) refl
      | inr none ↦
          rw (add_none v (v + m) (spans g (v + g) ms) (omega arith)) (joined_before g ms (v + g) a b le (λ j has. let r = far (suc j) has in omega arith))
    ]

-- up to a place where a hole may begin, before all others
joined_first : (g : ℕ) → 0 < g → (ms : List ℕ) (v i a : ℕ) → IsApart g ms → a ≤ v → ((j : ℕ) → j < i → slice_index ms j ≡ 0)
    → joined a (v + g * i) (spans g v ms) ≡ record { from = a; to = v + g * i + slice_index ms i } ∷ spans g v (set ms i 0)
joined_first g wide [] v i a apart le none = let e : v + g * i + 0 ≡ v + g * i = omega arith in rw e refl
joined_first g wide (m ∷ ms) v zero a apart le none =
    let e : v + g * 0 ≡ v = omega arith in
    let f : v + 0 ≡ v = omega arith in
    let off = add_none v v (spans g (v + g) ms) (omega arith) in
    rw (e, f, off) (elim (cases_lt 0 m) [
      | inl some ↦
          let h : min a v ≡ a = omega arith in
          let l : max v (v + m) ≡ v + m = omega arith in
          rw (add_some v (v + m) (spans g (v + g) ms) (omega arith), le-ltb (v + m) a (omega arith), le-ltb v v (omega arith), h, l)
          (joined_before g ms (v + g) a (v + m) (omega arith) (λ j has. let r = first_below g m j ms apart some has in omega arith))
      | inr empty ↦
          let z : v + m ≡ v = omega arith in
          rw (add_none v (v + m) (spans g (v + g) ms) (omega arith), z) (joined_before g ms (v + g) a v le (λ j has. omega arith))
    ])
joined_first g wide (m ∷ ms) v (suc i) a apart le none =
    let z = none 0 (omega arith) in
    let e : v + g * suc i ≡ v + g + g * i = omega arith in
    rw (e, add_zero v m (spans g (v + g) ms) z, add_zero v m (spans g (v + g) (set ms i 0)) z)
    (joined_first g wide ms (v + g) i a (IsApart-tail g m ms apart) (omega arith) (λ j lt. none (suc j) (omega arith)))

-- a span between p and q units put, where what stands at k ends at p or is not there
pub joined_is : (g : ℕ) → 0 < g → (ns : List ℕ) (u k p q : ℕ) → IsApart g ns → k < length ns → g * k ≤ p → p < g * q → slice_index ns k ≡ p - g * k
    → ((j : ℕ) → j < k → 0 < slice_index ns j → g * j + slice_index ns j < p) → ((j : ℕ) → k < j → j < q → slice_index ns j ≡ 0)
    → spans g u (set (set ns q 0) k (g * q + slice_index ns q - g * k)) ≡ joined (u + p) (u + g * q) (spans g u ns)
joined_is g wide [] u k p q apart inside from some here below none = absurd (omega arith)
joined_is g wide (m ∷ ms) u zero p zero apart inside from some here below none = absurd (omega arith)
joined_is g wide (m ∷ ms) u zero p (suc i) apart inside from some here below none =
    let n = slice_index ms i in
    let e : g * suc i + n - g * 0 ≡ g * suc i + n = omega arith in
    let f : u + g * suc i ≡ u + g + g * i = omega arith in
    let l : u + g + g * i + n ≡ u + (g * suc i + n) = omega arith in
    let p_is : p ≡ m = omega arith in
    let first : joined u (u + g * suc i) (spans g (u + g) ms) ≡ record { from = u; to = u + (g * suc i + n) } ∷ spans g (u + g) (set ms i 0) =
    rw f (joined_first g wide ms (u + g) i u (IsApart-tail g m ms apart) (omega arith) (λ j lt. none (suc j) (omega arith) (omega arith)) ∙ rw l refl) in
    rw (e, p_is) (add_some u _ _ (omega arith) ∙ sym first ∙ sym (elim (cases_lt 0 m) [
      | inl has ↦
          let h : min (u + m) u ≡ u = omega arith in
          let x : max (u + g * suc i) (u + m) ≡ u + g * suc i = omega arith in
          rw (add_some u (u + m) (spans g (u + g) ms) (omega arith), le-ltb (u + m) (u + m) (omega arith), le-ltb (u + g * suc i) u (omega arith), h, x) refl
      | inr empty ↦ let z : u + m ≡ u = omega arith in rw (add_none u (u + m) (spans g (u + g) ms) (omega arith), z) refl
    ]))
joined_is g wide (m ∷ ms) u (suc k) p zero apart inside from some here below none = absurd (omega arith)
joined_is g wide (m ∷ ms) u (suc k) p (suc q) apart inside from some here below none =
    let e : g * suc q + slice_index ms q - g * suc k ≡ g * q + slice_index ms q - g * k = omega arith in
    let f : u + p ≡ u + g + (p - g) = omega arith in
    let h : u + g * suc q ≡ u + g + g * q = omega arith in
    let ih = joined_is g wide ms (u + g) k (p - g) q (IsApart-tail g m ms apart) (omega arith) (omega arith) (omega arith) (omega arith)
    (λ j lt has. let r = below (suc j) (omega arith) has in omega arith)
    (λ j lt to. none (suc j) (omega arith) (omega arith)) in
    rw (e, f, h) (ap (add_span u (u + m)) ih ∙ sym (joined_pass _ _ u m _ (λ has. let r = below 0 (omega arith) has in omega arith)))

-- a cell changed
module _ (g : ℕ) (ns : List ℕ) (k x : ℕ) (lt : k < length ns) where
  here : slice_index (set ns k x) k ≡ x
  here = get_or-set_same ns k x 0 lt

  -- what holds of the other cells and of the new one, holds of all
  each : (P : ℕ → ℕ → Type 0) → ((j : ℕ) → (j ≡ k → ⊥) → P j (slice_index ns j)) → P k x → (j : ℕ) → P j (slice_index (set ns k x) j)
  each P others new j = elim (cases_lt j k) [
    | inl before ↦ let e = get_or-set_other ns k j x 0 (omega arith) in subst (P j) (sym e) (others j (omega arith))
    | inr from ↦ elim (cases_lt k j) [
      | inl behind ↦ let e = get_or-set_other ns k j x 0 (omega arith) in subst (P j) (sym e) (others j (omega arith))
      | inr to ↦ let e : k ≡ j = omega arith in subst (λ (i : ℕ). P i (slice_index (set ns k x) i)) e (subst (P k) (sym here) new)
    ]
  ]

  pub IsApart-set : IsApart g ns
      → (0 < x → (j : ℕ) → j < k → 0 < slice_index ns j → g * j + slice_index ns j < g * k)
      → (0 < x → (j : ℕ) → k < j → 0 < slice_index ns j → g * k + x < g * j)
      → IsApart g (set ns k x)
  IsApart-set apart below above = record {
    apart = λ i j has less other.
        each (λ b m. 0 < m → i < b → 0 < slice_index (set ns k x) i → g * i + slice_index (set ns k x) i < g * b)
        (λ b differ some from first. each (λ a n. 0 < n → a < b → g * a + n < g * b) (λ a differs n_some to. apart.apart a b n_some to some) (λ n_some to. above n_some b to some) i first from)
        (λ some from first. each (λ a n. 0 < n → a < k → g * a + n < g * k) (λ a differs n_some to. below some a to n_some) (λ n_some to. absurd (omega arith)) i first from)
        j other less has;
  }

  pub IsInside-set : (size : ℕ) → IsInside g size ns → (0 < x → g * k + x ≤ size) → IsInside g size (set ns k x)
  IsInside-set size inside new = record {
    inside = each (λ a n. 0 < n → g * a + n ≤ size) (λ a differs. inside.inside a) new;
  }
