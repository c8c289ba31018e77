-- Lemmas on the value of digits.
use Rattle.w16_script.proofs.Common as C
use Rattle.w16_script.proofs.Common.{◌≡◌, ℕ, suc, ◌<◌, ◌≤◌, ◌+◌, ◌*◌, ◌^◌, List, length, refl, arith, drop, get_or, true, place_value, is_digit}

-- the number that digits make after the number so far
abbrev pub value_behind : ℕ → ℕ → List ℕ → ℕ
value_behind base sofar digits = sofar * base ^ length digits + place_value base digits

regroup : (s b p q d w : ℕ) → q ≡ p * b → s * q + (d * p + w) ≡ (s * b + d) * p + w
regroup s b p q d w h = rw h (omega arith)

le_times : (s p w : ℕ) → 1 ≤ p → s ≤ s * p + w
le_times s p w h = omega (arith, C.mul-le-mul_left s h)

module _ (base sofar d i : ℕ) (xs : List ℕ) (h : i < length xs) (e : d ≡ C.digit_value (get_or xs i 0)) where
  -- a digit goes from the rest to the number
  pub value_behind-step : value_behind base sofar (drop i xs) ≡ value_behind base (sofar * base + d) (drop (i + 1) xs)
  value_behind-step =
      let ds = drop (suc i) xs in
      rw (C.add-one, C.drop-cons xs i 0 h, e) (regroup sofar base (base ^ length ds) (base ^ suc (length ds)) (C.digit_value (get_or xs i 0)) (place_value base ds) (C.pow-suc base (length ds)))

  -- and is tested
  pub all_digits-step : d < base → C.list_all (is_digit base) (drop i xs) ≡ C.list_all (is_digit base) (drop (i + 1) xs)
  all_digits-step small =
      let passes : is_digit base (get_or xs i 0) ≡ true = grind (arith, C.nat_tests) in
      rw (C.add-one, C.drop-cons xs i 0 h, passes) refl

  -- so the whole number is no smaller than what a digit more makes
  pub value_behind-whole : (n : ℕ) → 1 ≤ base → value_behind base sofar (drop i xs) ≡ place_value base xs → n ≡ place_value base xs → sofar * base + d ≤ n
  value_behind-whole n some sum whole =
      let ds = drop (i + 1) xs in
      omega (arith, value_behind-step, sum, whole, le_times (sofar * base + d) (base ^ length ds) (place_value base ds) (C.one-le-pow (length ds) base some))
