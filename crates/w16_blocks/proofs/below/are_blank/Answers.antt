use Rattle.w16_blocks.proofs.Common.{ℕ, zero, suc, ◌≡◌, ◌<◌, List, arith, slice_index, bit_or, le_or_l, le_or_r}
use Rattle.std.proofs.Common.{eqb-true}
use Rattle.w16_blocks.proofs.below.are_blank.Goals as goal

-- numbers without a bit together have none each
none_each : (a b : ℕ) → bit_or a b ≡ 0 → (a ≡ 0) × (b ≡ 0)
none_each a b none = let l = le_or_l a b in let r = le_or_r a b in (omega arith, omega arith)

four : (a b c d : ℕ) → bit_or (bit_or (bit_or a b) c) d ≡ 0 → (a ≡ 0) × (b ≡ 0) × (c ≡ 0) × (d ≡ 0)
four a b c d none =
    let last = none_each _ d none in
    let third = none_each _ c last.0 in
    let two = none_each a b third.0 in
    (two.0, two.1, third.1, last.1)

eight : (cells : List ℕ) → bit_or (bit_or (bit_or (bit_or (slice_index cells 0) (slice_index cells 1)) (slice_index cells 2)) (slice_index cells 3))
    (bit_or (bit_or (bit_or (slice_index cells 4) (slice_index cells 5)) (slice_index cells 6)) (slice_index cells 7)) ≡ 0
    → (k : ℕ) → k < 8 → slice_index cells k ≡ 0
eight cells none = at
  where
    halves : (bit_or (bit_or (bit_or (slice_index cells 0) (slice_index cells 1)) (slice_index cells 2)) (slice_index cells 3) ≡ 0)
        × (bit_or (bit_or (bit_or (slice_index cells 4) (slice_index cells 5)) (slice_index cells 6)) (slice_index cells 7) ≡ 0)
    halves = none_each _
        _ none

    low : (slice_index cells 0 ≡ 0) × (slice_index cells 1 ≡ 0) × (slice_index cells 2 ≡ 0) × (slice_index cells 3 ≡ 0)
    low = four _ _ _ _ halves.0

    high : (slice_index cells 4 ≡ 0) × (slice_index cells 5 ≡ 0) × (slice_index cells 6 ≡ 0) × (slice_index cells 7 ≡ 0)
    high = four _ _ _ _ halves.1

    at : (k : ℕ) → k < 8 → slice_index cells k ≡ 0
    at zero lt = low.0
    at (suc zero) lt = low.1
    at (suc (suc zero)) lt = low.2
    at (suc (suc (suc zero))) lt = low.3
    at (suc (suc (suc (suc zero)))) lt = high.0
    at (suc (suc (suc (suc (suc zero))))) lt = high.1
    at (suc (suc (suc (suc (suc (suc zero)))))) lt = high.2
    at (suc (suc (suc (suc (suc (suc (suc zero))))))) lt = high.3
    at (suc (suc (suc (suc (suc (suc (suc (suc k)))))))) lt = absurd (omega arith)

pub returns : goal.returns
returns c = λ none. eight _ (eqb-true _ 0 none)
