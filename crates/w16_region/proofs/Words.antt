-- Double words in a list of bytes.
use Rattle.w16_model.proofs.Parts as M
use Rattle.std.specs.{Vec.with_items, Prelude.Vec}
use Rattle.std.proofs.Common.{ℕ, ◌≡◌, ◌+◌, ◌^◌, ◌<◌, ◌≤◌, List, [], ◌++◌, length, drop, arith, ap, ◌∙◌}
use Rattle.std.proofs.lemmas.List.{append-nil, drop_all}
use Rattle.byteorder.specs.{Endian.little_number, Endian.little_bytes, Numbers.little_number-reads_back, Numbers.length-bytes_low_first}
use Rattle.w16_model.specs.{Bytes.part, Bytes.put_part, Table.IsSameOutside}
use Rattle.w16_region.specs.Bytes.{word_in, put_word, with_items-put_part}

four : (value : ℕ) → length (little_bytes 4 value) ≡ 4
four value = length-bytes_low_first 0 4 value

-- a word written over four bytes leaves nothing of them
word_over : (bytes : List ℕ) (at value : ℕ) → at + 4 ≤ length bytes → little_bytes 4 value ++ drop 4 (part bytes at 4) ≡ little_bytes 4 value
word_over bytes at value le =
    let long = M.length-part bytes at 4 le in
    ap (λ l. little_bytes 4 value ++ l) (drop_all 4 (part bytes at 4) (omega arith)) ∙ append-nil _

-- a vector that lent four bytes, in which a word was written
pub items-put_word : {Z : Type 0} (v : Vec ℕ Z) (at value : ℕ) (lent left : List ℕ) → at + 4 ≤ length v.items → lent ≡ part v.items at 4 → left ≡ little_bytes 4 value ++ drop 4 lent
    → (with_items v (put_part v.items at left)).items ≡ put_word v.items at value
unfolding put_word
items-put_word v at value lent left le was is =
    let e = four value in
    let word = is ∙ ap (λ l. little_bytes 4 value ++ drop 4 l) was ∙ word_over v.items at value le in
    ap (λ l. (with_items v (put_part v.items at l)).items) word ∙ with_items-put_part v at (little_bytes 4 value) (omega arith)

pub length-put_word : (bytes : List ℕ) (at value : ℕ) → at + 4 ≤ length bytes → length (put_word bytes at value) ≡ length bytes
unfolding put_word
length-put_word bytes at value le = let e = four value in M.length-put_part bytes at (little_bytes 4 value) (omega arith)

-- a word that was put is read again
pub word_in-put_word : (bytes : List ℕ) (at value : ℕ) → at + 4 ≤ length bytes → value < 2 ^ 32 → word_in (put_word bytes at value) at ≡ value
unfolding word_in put_word
word_in-put_word bytes at value le lt =
    ap (little_number 4) (M.part-put_part bytes at (little_bytes 4 value) 4 (four value) (omega arith)) ∙ little_number-reads_back 4 value [] lt

-- where the four bytes are the same, so is the word
pub word_in-same : (old new : List ℕ) (at : ℕ) → part new at 4 ≡ part old at 4 → word_in new at ≡ word_in old at
unfolding word_in
word_in-same old new at same = ap (little_number 4) same

-- only the four bytes are others
pub IsSameOutside-put_word : (bytes : List ℕ) (at value : ℕ) → at + 4 ≤ length bytes → IsSameOutside at (at + 4) bytes (put_word bytes at value)
unfolding put_word
IsSameOutside-put_word bytes at value le = let e = four value in record {
  below = M.take-put_part bytes at (little_bytes 4 value) at (omega arith) (omega arith);
  above = M.drop-put_part bytes at (little_bytes 4 value) _ (omega arith) (omega arith);
}
