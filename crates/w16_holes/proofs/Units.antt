-- Numbers of units, and what they are in bytes.
use Rattle.w16_holes.proofs.Common.{ℕ, suc, ◌≡◌, ◌<◌, ◌≤◌, ◌+◌, ◌*◌, ◌-◌, ◌/◌, arith, ap, inl, inr, mul-le-mul_left, cases_lt, IsMultiple}

pub up : (g a b : ℕ) → a ≤ b → g * a ≤ g * b
up g a b le = mul-le-mul_left g le

pub above : (g a b : ℕ) → a < b → g * a + g ≤ g * b
above g a b lt = let r = mul-le-mul_left g lt in omega arith

-- and back
pub below : (g a b : ℕ) → g * a < g * b → a < b
below g a b lt = elim (cases_lt a b) [
  | inl less ↦ less
  | inr le ↦ let r = up g b a le in absurd (omega arith)
]

pub at_most : (g a b : ℕ) → 0 < g → g * a ≤ g * b → a ≤ b
at_most g a b some le = elim (cases_lt b a) [
  | inl less ↦ let r = above g b a less in absurd (omega arith)
  | inr is ↦ is
]

-- a multiple is so many whole units
divided : (g n d : ℕ) → 0 < g → n ≡ g * d → g * (n / g) ≡ n
divided g n d some e = elim (cases_lt (n / g) d) [
  | inl less ↦ let r = above g (n / g) d less in absurd (omega arith)
  | inr le ↦ let r = up g d (n / g) le in omega arith
]

pub whole_units : (g lo place : ℕ) → 0 < g → lo ≤ place → IsMultiple g lo → IsMultiple g place → g * ((place - lo) / g) ≡ place - lo
whole_units g lo place some le low high =
    let e = low.1 in let f = high.1 in
    let less = at_most g low.0 high.0 some (omega arith) in
    let sum : high.0 ≡ low.0 + (high.0 - low.0) = omega arith in
    let parts = ap (λ n. g * n) sum in
    divided g _ (high.0 - low.0) some (omega arith)

pub multiple_sum : (g a b : ℕ) → IsMultiple g a → IsMultiple g b → IsMultiple g (a + b)
multiple_sum g a b one two = let e = one.1 in let f = two.1 in (one.0 + two.0, omega arith)

pub multiple_less : (g a b : ℕ) → IsMultiple g a → IsMultiple g b → IsMultiple g (a - b)
multiple_less g a b one two = let e = one.1 in let f = two.1 in (one.0 - two.0, less (one.0) (two.0) e f)
  where
    less : (m n : ℕ) → a ≡ g * m → b ≡ g * n → a - b ≡ g * (m - n)
    less m n e f = elim (cases_lt m n) [
      | inl under ↦ let r = up g m n (omega arith) in let z : m - n ≡ 0 = omega arith in let zero_is = ap (λ i. g * i) z in omega arith
      | inr over ↦ let sum : m ≡ n + (m - n) = omega arith in let parts = ap (λ i. g * i) sum in omega arith
    ]
