-- Lemmas on the words of a line.
use Rattle.w16_script.proofs.Common.{common_steps, if◌then◌else◌, ◌≡◌, ℕ, zero, suc, ◌<◌, ◌≤◌, Bool, true, false, List, [], ◌∷◌, length, take, drop, get_or, refl, sym, ap, ◌∙◌, arith, words_of, is_blank, with_byte}
use Rattle.std.proofs.Common.{◌+◌, ◌%◌, ◌^◌, ◌||◌, ◌==◌, not, cond, map, bit_or}
use Rattle.std.proofs.lemmas.List.{length-map}
use Rattle.std.proofs.lemmas.Simd.{map-map, mask_l-mod, length-chunk, first_set_mask_l}
use Rattle.std.specs.{Int.trailing_zeros, Int.w64, List.prefix_len}
use lib.Lanes.{chunk, mask_l, top}

-- where the first byte is no blank there is a word
words_of_some : (xs : _) → 0 < length xs → is_blank (get_or xs 0 0) ≡ false → words_of xs ≡ [] → ⊥
words_of_some [] some first e = absurd (omega arith)
words_of_some (x ∷ xs) some first e = grind arith

-- so none is left only where no byte is
pub words_of_none : (text rest : _) → words_of rest ≡ words_of text → (0 < length rest → is_blank (get_or rest 0 0) ≡ false) → (length rest ≡ 0 → words_of text ≡ []) × (words_of text ≡ [] → length rest ≡ 0)
words_of_none text [] same begins = (λ e. sym same, λ e. refl)
words_of_none text (x ∷ xs) same begins = grind (arith, words_of_some)

-- the front of a line up to a blank is its first word
pub words_of_split : (xs n : _) → 0 < n → n ≤ length xs → ((k : ℕ) → k < n → is_blank (get_or xs k 0) ≡ false) → (n < length xs → is_blank (get_or xs n 0) ≡ true) → words_of xs ≡ take n xs ∷ words_of (drop n xs)
words_of_split [] n some within before stop = grind arith
words_of_split xs zero some within before stop = grind arith
words_of_split (x ∷ []) (suc n) some within before stop = grind (arith, before 0)
words_of_split (x ∷ y ∷ ys) (suc zero) some within before stop = grind (arith, before 0)
words_of_split (x ∷ y ∷ ys) (suc (suc n)) some within before stop =
    let rest = words_of_split (y ∷ ys) (suc n) (omega arith) (omega arith) (λ k h. before (suc k) (omega arith)) (λ h. stop (omega arith)) in
    grind (arith, before 0, before 1)

-- the place of the lowest bit of a mask of sixteen, or 16
abbrev pub lowest : ℕ → ℕ
lowest mask = cond (mask == 0) 16 (trailing_zeros w64 mask)

blank_lane : (a b : _) → top 7 (bit_or (cond a 255 0) (cond b 255 0)) ≡ (a || b)
blank_lane a b = grind arith

-- the lowest lane that a comparison with both blanks marks is the first blank
pub blank_lanes : (text at r z : _) → at + 16 ≤ length text → r ≡ lowest (mask_l (map (top 7) z) % 2 ^ 64) → z ≡ map (λ x. bit_or (cond (x == 32) 255 0) (cond (x == 9) 255 0)) (chunk at 16 text) → r ≡ prefix_len (λ x. not (is_blank x)) (chunk at 16 text)
blank_lanes text at r z room found lanes =
    let v = chunk at 16 text in
    let long = length-chunk at 16 text room in
    let marked : map (top 7) z ≡ map is_blank v = ap (map (top 7)) lanes ∙ map-map (top 7) _ v ∙ (λ i. map (λ x. blank_lane (x == 32) (x == 9) i) v) in
    let few = mask_l-mod (map is_blank v) 64 (omega (arith, length-map v is_blank, long)) in
    found ∙ ap (λ ms. lowest (mask_l ms % 2 ^ 64)) marked ∙ ap lowest few ∙ first_set_mask_l is_blank v 16 long (omega arith)

pub ruleset splitting = (common_steps, words_of_split)
