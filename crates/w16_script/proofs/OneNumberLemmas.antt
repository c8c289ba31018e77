-- A number has only one reading.
use Rattle.w16_script.proofs.Common.{◌≡◌, ℕ, ◌+◌, ◌^◌, ◌<◌, inl, inr, Bool, true, List, ◌∷◌, length, get_or, drop, sym, ap, ◌∙◌, arith, nat_tests, ◌&&◌, IsLiteral, IsSum, IsForm, IsOfRegister, IsNumber}
use Rattle.w16_script.proofs.RegisterLemmas.{BeginsWith-form, BeginsWith-same, BeginsWith-from}

-- both tests hold
pub both : (a b : Bool) → (a && b) ≡ true → (a ≡ true) × (b ≡ true)
both a b e = grind arith

pub literal_same : (text : List ℕ) (m n : ℕ) → IsLiteral text m → IsLiteral text n → m ≡ n
literal_same text m n p q = grind (arith, nat_tests)

-- no number as it stands begins as a register
apart : (registers text : List ℕ) (m n : ℕ) → IsLiteral text m → IsOfRegister registers text n → ⊥
apart registers text m n p q = let f = BeginsWith-form (BeginsWith-from q) in grind (arith, nat_tests)

-- what stands after a register's name has one form

same_sum : (value : ℕ) (suffix : List ℕ) (m n : ℕ) → IsSum value suffix m → IsSum value suffix n → m ≡ n
same_sum value suffix m n p q = grind (arith, literal_same)

form-one : (value : ℕ) (suffix : List ℕ) (m n : ℕ) → IsForm value suffix m → IsForm value suffix n → m ≡ n
form-one value suffix m n p q = grind (arith, same_sum)

of_register-one : {registers text m n : _} → IsOfRegister registers text m → IsOfRegister registers text n → m ≡ n
of_register-one p q = let same = BeginsWith-same (BeginsWith-from p) (BeginsWith-from q) in grind (arith, literal_same)

pub number-same : (registers word : List ℕ) (m n : ℕ) → IsNumber registers word m → IsNumber registers word n → m ≡ n
number-same registers word m n (inl p, _) (inl q, _) = literal_same word m n p q
number-same registers word m n (inl p, _) (inr q, _) = absurd (apart registers word m n p q)
number-same registers word m n (inr p, _) (inl q, _) = absurd (apart registers word n m q p)
number-same registers word m n (inr p, _) (inr q, _) = of_register-one p q

-- What no sum, no form and no number are.

module _ (value : ℕ) (suffix tail : List ℕ) (first n : ℕ) (is : (suffix ≡ first ∷ tail) × (length tail + 1 ≡ length suffix)) (plus : first ≡ 43) (none : (more : ℕ) → IsLiteral tail more → value + more < 2 ^ 32 → ⊥) (small : n < 2 ^ 32) where
  pub no_sum : IsForm value suffix n → ⊥
  no_sum (inl p) = omega (arith, ap (λ l. get_or l 0 0) (sym p.0 ∙ is.0), plus)
  no_sum (inr (inl p)) = omega (arith, ap (λ l. get_or l 0 0) (sym p.0 ∙ is.0), plus)
  no_sum (inr (inr (inl p))) = omega (arith, ap (λ l. get_or l 0 0) (sym p.0 ∙ is.0), plus)
  no_sum (inr (inr (inr (other, more, whole, literal, same)))) = none more (rw (ap (drop 1) (sym whole ∙ is.0)) at literal) (omega (arith, same, small))

pub no_number : (registers word : List ℕ) → ((n : ℕ) → n < 2 ^ 32 → IsOfRegister registers word n → ⊥) → ((n : ℕ) → IsLiteral word n → ⊥) → (n : ℕ) → IsNumber registers word n → ⊥
no_number registers word none literal n (inl p, small) = literal n p
no_number registers word none literal n (inr q, small) = none n small q
