use Rattle.std.proofs.Common.{◌≡◌, ℕ, suc, ◌+◌, ◌<◌, ◌≤◌, ◌/◌, ◌%◌, ◌==◌, ◌||◌, Bool, true, false, cond, nat_lt, List, [], ◌∷◌, ◌++◌, length, get_or, codes, refl, sym, subst, arith}
use Rattle.std.proofs.{lemmas.Bool.Decides.nat_tests, lemmas.Fmt.hex_byte}
use Rattle.std.specs.Fmt.{digit_glyph}
use Rattle.w16_picture.specs.Escape.{IsPlain, IsText, nothing, plain, entity, byte_shown, byte_text, escaped, hex}

choice : (P : List ℕ → Type 0) (c : Bool) (x y : List ℕ) → (c ≡ true → P x) → (c ≡ false → P y) → P (cond c x y)
choice P true x y f g = f refl
choice P false x y f g = g refl

plain-high : (b : ℕ) → 63 ≤ b → b ≤ 126 → IsPlain b
plain-high b low high = record { low = omega arith; high = high; quote = omega arith; ampersand = omega arith; apostrophe = omega arith; less = omega arith; greater = omega arith }

plain-digit : (b : ℕ) → 48 ≤ b → b ≤ 57 → IsPlain b
plain-digit b low high = record { low = omega arith; high = omega arith; quote = omega arith; ampersand = omega arith; apostrophe = omega arith; less = omega arith; greater = omega arith }

plain-glyph : (n : ℕ) → n < 16 → IsPlain (digit_glyph false n)
plain-glyph n h = at (nat_lt n 10) refl
  where
    at : (c : Bool) → nat_lt n 10 ≡ c → IsPlain (cond c (48 + n) (87 + n))
    at true e = let low : n < 10 = grind (arith, nat_tests) in plain-digit (48 + n) (omega arith) (omega (arith, low))
    at false e = let high : 10 ≤ n = grind (arith, nat_tests) in plain-high (87 + n) (omega (arith, high)) (omega arith)

text-code : (b : ℕ) (rest : List ℕ) → b < 256 → IsText rest → IsText ((codes "\\x" ++ hex 2 b) ++ rest)
text-code b rest h inner =
    let glyphs : IsText ((digit_glyph false (b / 16) ∷ digit_glyph false (b % 16) ∷ []) ++ rest) =
    plain _ _ (plain-glyph (b / 16) (omega arith)) (plain _ _ (plain-glyph (b % 16) (omega arith)) inner)
    in
    let code : IsText (hex 2 b ++ rest) = subst (λ (t : List ℕ). IsText (t ++ rest)) (sym (hex_byte false b h)) glyphs in
    plain 92 (120 ∷ hex 2 b ++ rest) (plain-high 92 (omega arith) (omega arith)) (plain 120 (hex 2 b ++ rest) (plain-high 120 (omega arith) (omega arith)) code)

text-byte : (b : ℕ) (rest : List ℕ) → b < 256 → IsText rest → IsText (byte_text b ++ rest)
unfolding byte_text byte_shown
text-byte b rest h inner =
    let P : List ℕ → Type 0 = λ t. IsText (t ++ rest) in
    choice P (b == 34) _ _ (λ e. entity (codes "&quot;") rest (0, omega arith, refl) inner) (λ n34.
    choice P (b == 38) _ _ (λ e. entity (codes "&amp;") rest (1, omega arith, refl) inner) (λ n38.
    choice P (b == 39) _ _ (λ e. entity (codes "&apos;") rest (2, omega arith, refl) inner) (λ n39.
    choice P (b == 60) _ _ (λ e. entity (codes "&lt;") rest (3, omega arith, refl) inner) (λ n60.
    choice P (b == 62) _ _ (λ e. entity (codes "&gt;") rest (4, omega arith, refl) inner) (λ n62.
    choice P (nat_lt b 32 || nat_lt 126 b) _ _ (λ e. text-code b rest h inner) (λ e.
    plain b rest (record {
      low = grind (arith, nat_tests);
      high = grind (arith, nat_tests);
      quote = grind (arith, nat_tests);
      ampersand = grind (arith, nat_tests);
      apostrophe = grind (arith, nat_tests);
      less = grind (arith, nat_tests);
      greater = grind (arith, nat_tests);
    }) inner))))))

-- escaped bytes are text
pub IsText-escaped : (bytes : List ℕ) → ((k : ℕ) → k < length bytes → get_or bytes k 0 < 256) → IsText (escaped bytes)
IsText-escaped [] small = nothing
IsText-escaped (b ∷ bytes) small =
    text-byte b (escaped bytes) (small 0 (omega arith)) (IsText-escaped bytes (λ k less. small (suc k) (omega (arith, less))))
