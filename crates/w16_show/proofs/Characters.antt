-- Characters as they stand in a string of JSON.
use Rattle.std.proofs.Common.{⊎_elim, ◌≡◌, ℕ, ◌<◌, ◌≤◌, ◌++◌, List, [], ◌∷◌, refl, sym, ap, ◌∙◌, arith}
use Rattle.std.proofs.lemmas.Bool.{cases_lt, le-ltb, lt-ltb}
use Rattle.std.proofs.{lemmas.Grind.flat_map-append, lemmas.Str.encode_ascii}
use Rattle.std.specs.{Char.encode_utf8, List.flat_map, Prelude.◌+◌, Prelude.◌/◌, Prelude.◌%◌}
use Rattle.json.specs.Print.{escape, escape_byte}
use Rattle.json.proofs.Printed.Strings.{escape_byte_plain}

-- the characters of bytes, each written by itself
pub escaped_characters : (bytes : List ℕ) → flat_map (λ b. escape (encode_utf8 b)) bytes ≡ escape (flat_map encode_utf8 bytes)
escaped_characters [] = refl
escaped_characters (b ∷ bs) = ap (λ t. escape (encode_utf8 b) ++ t) (escaped_characters bs) ∙ sym (flat_map-append escape_byte (encode_utf8 b) (flat_map encode_utf8 bs))

small : (b : ℕ) → b < 128 → 32 ≤ b → (b ≡ 34 → ⊥) → (b ≡ 92 → ⊥) → encode_utf8 b ≡ escape (encode_utf8 b)
small b less printed q s = rw (encode_ascii b less, escape_byte_plain b q s printed) refl

large : (b : ℕ) → b < 256 → 128 ≤ b → encode_utf8 b ≡ escape (encode_utf8 b)
unfolding encode_utf8
large b fits more =
    rw (le-ltb b 128 more, lt-ltb b 2048 (omega arith), escape_byte_plain (192 + b / 64) (λ h. omega arith) (λ h. omega arith) (omega arith), escape_byte_plain (128 + b % 64) (λ h. omega arith) (λ h. omega arith) (omega arith)) refl

-- a character that is written as it is
pub as_it_is : (b : ℕ) → b < 256 → 32 ≤ b → (b ≡ 34 → ⊥) → (b ≡ 92 → ⊥) → encode_utf8 b ≡ escape (encode_utf8 b)
as_it_is b fits printed q s = ⊎_elim (λ less. small b less printed q s) (λ more. large b fits more) (cases_lt b 128)
