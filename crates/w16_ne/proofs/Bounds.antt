-- Tests that end a loop over a table, or refuse it.
use Rattle.w16_ne.proofs.Common.{◌≡◌, ℕ, ◌≤◌, ◌<◌, ◌==◌, ◌||◌, true, false, arith, nat_lt, nat_le, nat_tests}

pub ends_by_place : (len at byte : ℕ) → len ≤ at → (nat_le len at || byte == 0) ≡ true
ends_by_place len at byte h = grind (arith, nat_tests)

pub ends_by_byte : (len at byte : ℕ) → byte ≡ 0 → (nat_le len at || byte == 0) ≡ true
ends_by_byte len at byte h = grind (arith, nat_tests)

pub goes_further : (len at byte : ℕ) → at < len → (byte ≡ 0 → ⊥) → (nat_le len at || byte == 0) ≡ false
goes_further len at byte lt h = grind (arith, nat_tests)

pub is_past : (len end : ℕ) → len < end → nat_lt len end ≡ true
is_past len end h = grind (arith, nat_tests)

pub is_inside : (len end : ℕ) → end ≤ len → nat_lt len end ≡ false
is_inside len end h = grind (arith, nat_tests)

pub is_sound : (len end count : ℕ) → end ≤ len → count ≤ 65535 → (nat_lt len end || nat_lt 65535 count) ≡ false
is_sound len end count h m = grind (arith, nat_tests)
