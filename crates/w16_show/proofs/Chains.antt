-- Chains of sites.
use Rattle.std.proofs.Common.{◌≡◌, ℕ, zero, suc, ◌+◌, ◌-◌, ◌<◌, List, [], ◌∷◌, ◌++◌, sym, ◌∙◌, ap, refl, arith, Bool, true, false, ◌==◌}
use Rattle.std.proofs.{lemmas.Bool.eqb-true, lemmas.List.append_assoc}
use Rattle.w16_ne.specs.Reading.{word_of}
use Rattle.w16_reloc.specs.Naming.{chain_from}

pub chain-ended : (bytes : List ℕ) (n : ℕ) → chain_from bytes n 65535 ≡ []
chain-ended bytes zero = refl
chain-ended bytes (suc n) = refl

one : (bytes : List ℕ) (n at : ℕ) → (at ≡ 65535 → ⊥) → chain_from bytes (suc n) at ≡ at ∷ chain_from bytes n (word_of bytes at)
one bytes n at more = pick (at == 65535) refl
  where
    pick : (b : Bool) → (at == 65535) ≡ b → chain_from bytes (suc n) at ≡ at ∷ chain_from bytes n (word_of bytes at)
    pick true e = absurd (more (eqb-true at 65535 e))
    pick false e = rw e refl

left : (n k : ℕ) → k < n → n - k ≡ suc (n - (k + 1))
left n k h = omega arith

-- one link more
pub chain-step : (bytes : List ℕ) (front : List ℕ) (n k at : ℕ) → k < n → (at ≡ 65535 → ⊥) → front ++ chain_from bytes (n - k) at ≡ (front ++ at ∷ []) ++ chain_from bytes (n - (k + 1)) (word_of bytes at)
chain-step bytes front n k at h more =
    ap (λ (m : ℕ). front ++ chain_from bytes m at) (left n k h) ∙ ap (λ (c : List ℕ). front ++ c) (one bytes (n - (k + 1)) at more)
    ∙ sym (append_assoc front (at ∷ []) (chain_from bytes (n - (k + 1)) (word_of bytes at)))
