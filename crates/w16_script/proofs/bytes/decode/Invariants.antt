use Rattle.w16_script.proofs.Common.{◌≡◌, ◌*◌, true, false, List, ℕ, Ok, length, take, drop, decode_of, decode_pairs, prepend}
use Rattle.w16_script.proofs.bytes.decode.Given as goal

-- the pairs up to here were decoded, or one of them is none of digits
abbrev pub invariant-pairs : goal.invariant-pairs
invariant-pairs l = record {
  sized : length l.bytes ≡ length l.initial.bytes;
  decoded : l.are_digits ≡ true → decode_pairs 0 l.word ≡ prepend (take l.at l.bytes) (decode_pairs (2 * l.at) (drop (2 * l.at) l.word));
  bad : l.are_digits ≡ false → (other : List ℕ) → decode_of l.word ≡ Ok other → ⊥;
}
