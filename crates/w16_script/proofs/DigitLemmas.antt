-- Lemmas on digits.
use Rattle.w16_script.proofs
use proofs.Common as C
use proofs.Common.{◌≡◌, ℕ, zero, suc, ◌+◌, ◌*◌, ◌%◌, ◌<◌, ◌≤◌, ◌⊎◌, Bool, true, false, Some, None, Ok, Err, length, take, drop, refl, sym, ◌∙◌, arith, inl, inr, ◌==◌, ◌&&◌, if◌then◌else◌, nat_lt, slice_index, nat_tests, decode_pairs, hex_digit_value, pair_value, InvalidHexCharacter}
use proofs.Common.{VALUES}
use proofs.OneNumberLemmas.{both}

-- what a table has for a digit, and for what is none
abbrev pub Stands : C.Option ℕ → ℕ → Type 0
Stands digit x = C.MatchOption digit (x ≡ 16) (λ value. (x ≡ value) × (value < 16))

stands : C.Option ℕ → ℕ → Bool
stands None x = x == 16
stands (Some value) x = (x == value) && nat_lt value 16

from-stands : (digit x : _) → stands digit x ≡ true → Stands digit x
unfolding stands
from-stands None x e = grind (arith, nat_tests)
from-stands (Some value) x e = (grind (arith, nat_tests), grind (arith, nat_tests))

-- it is right for each byte below n
all_right : (ℕ → ℕ) → ℕ → Bool
all_right value zero = true
all_right value (suc n) = stands (hex_digit_value n) (value n) && all_right value n

right-at : (value : ℕ → ℕ) (n byte : _) → byte < n → all_right value n ≡ true → Stands (hex_digit_value byte) (value byte)
unfolding all_right
right-at value zero byte small e = absurd (omega (arith, small))
right-at value (suc n) byte small e =
    let parts = both (stands (hex_digit_value n) (value n)) (all_right value n) e in
    elim (C.cases_lt byte n) [
      | inl below ↦ right-at value n byte below parts.1
      | inr above ↦ let same : byte ≡ n = omega arith in rw same (from-stands (hex_digit_value n) (value n) parts.0)
    ]

-- the program's table is right
values_right : all_right (slice_index VALUES.now) 256 ≡ true
unfolding all_right stands
values_right = refl

pub value-at : (byte : _) → byte < 256 → Stands (hex_digit_value byte) (slice_index VALUES.now byte)
value-at byte small = right-at (slice_index VALUES.now) 256 byte small values_right

-- and so is what it reckons
abbrev pub reckoned : ℕ → ℕ
reckoned byte = if nat_lt ((byte + 208) % 256) 10 then (byte + 208) % 256 else if nat_lt ((C.bit_or byte 32 + 159) % 256) 6 then (C.bit_or byte 32 + 159) % 256 + 10 else 16

reckoned_right : all_right reckoned 256 ≡ true
unfolding all_right stands
reckoned_right = refl

pub value_reckoned : (byte x : _) → byte < 256 → x ≡ reckoned byte → Stands (hex_digit_value byte) x
value_reckoned byte x small e = rw e (right-at reckoned 256 byte small reckoned_right)

known : (digit x : _) → Stands digit x → x < 16 → digit ≡ Some x
known digit x h other = grind arith

unknown : (digit x : _) → Stands digit x → 16 ≤ x → digit ≡ None
unknown digit x h e = grind arith

-- two digits
pub pair-read : (a b high low i : _) → Stands (hex_digit_value a) high → Stands (hex_digit_value b) low → high < 16 → low < 16 → pair_value a b i ≡ Ok ((high * 16 % 256 + low) % 256)
pair-read a b high low i p q first second = grind (arith, known)

-- one of the two is none
pub pair-bad : (a b high low i : _) → Stands (hex_digit_value a) high → Stands (hex_digit_value b) low → (nat_lt high 16 ≡ false) ⊎ (nat_lt low 16 ≡ false) → (e : C.FromHexError) × (pair_value a b i ≡ Err e)
pair-bad a b high low i p q (inl bad) = (InvalidHexCharacter a i, rw (unknown (hex_digit_value a) high p (grind (arith, nat_tests, bad))) refl)
pair-bad a b high low i p q (inr bad) = elim (C.cases_lt high 16) [
  | inl some ↦ (InvalidHexCharacter b (i + 1), rw (known (hex_digit_value a) high p some, unknown (hex_digit_value b) low q (grind (arith, nat_tests, bad))) refl)
  | inr none ↦ (InvalidHexCharacter a i, rw (unknown (hex_digit_value a) high p none) refl)
]

-- not all three
pub one-bad : (a b c : _) → ((a && b) && c) ≡ false → a ≡ true → (b ≡ false) ⊎ (c ≡ false)
one-bad a b c e all = grind arith

-- a bad pair is a bad text
pub bad_text : (word out other i e : _) → length word ≡ 2 * length out → i < length out → pair_value (slice_index word (2 * i)) (slice_index word (2 * i + 1)) (2 * i) ≡ Err e → decode_pairs 0 word ≡ C.prepend (take i out) (decode_pairs (2 * i) (drop (2 * i) word)) → C.decode_of word ≡ Ok other → ⊥
bad_text word out other i e sized here bad inv reads =
    let even = C.decode_of-even word (omega (arith, sized)) in
    let clash : Ok other ≡ Err e = sym reads ∙ even ∙ C.decode_err word out i e (omega (arith, sized, here)) bad inv in
    cc

pub whole_text : (word out i : _) → length word ≡ 2 * length out → length out ≤ i → decode_pairs 0 word ≡ C.prepend (take i out) (decode_pairs (2 * i) (drop (2 * i) word)) → C.decode_of word ≡ Ok out
whole_text word out i sized here inv = C.decode_of-even word (omega (arith, sized)) ∙ C.decode_done word out i here (omega (arith, sized, here)) inv
