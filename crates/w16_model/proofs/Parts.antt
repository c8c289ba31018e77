-- Parts of a list of bytes: where one was put or slid down, and where two lists agree.
use Rattle.std.proofs.Common.{ℕ, ◌≡◌, ◌+◌, ◌-◌, ◌<◌, ◌≤◌, ◌⊎◌, inl, inr, All, List, ◌++◌, length, take, drop, slice_range, arith, sym, ◌∙◌, ap, length-append, length-drop, append_assoc}
use Rattle.std.proofs.lemmas.List.{length-replicate, length-take-le, take-append-le, take_at, drop_at, drop-drop, drop-take, take-take}
use Rattle.std.proofs.lemmas.List.Elements.{All-append, All-take, All-drop, All-replicate}
use Rattle.w16_model.specs.Bytes.{part, put_part, repeated}

-- where a part inside is replaced, the length stays
pub length-put_part : (bytes : List ℕ) (at : ℕ) (new : List ℕ) → at + length new ≤ length bytes
    → length (put_part bytes at new) ≡ length bytes
length-put_part bytes at new le =
    let rest = drop (length new) (drop at bytes) in
    let whole = length-append (take at bytes) (new ++ rest) in
    let after = length-append new rest in
    let behind = length-drop (length new) (drop at bytes) in
    let from_at = length-drop at bytes in
    let before = length-take-le at bytes (omega arith) in
    omega arith

pub length-repeated : (size byte : ℕ) → length (repeated size byte) ≡ size
unfolding repeated
length-repeated size byte = length-replicate size byte

-- copies of a byte are bytes
pub All-repeated : (n byte : ℕ) → byte < 256 → All (λ b. b < 256) (repeated n byte)
unfolding repeated
All-repeated n byte lt = All-replicate (λ b. b < 256) n byte lt

pub length-part : (bytes : List ℕ) (at n : ℕ) → at + n ≤ length bytes → length (part bytes at n) ≡ n
length-part bytes at n le = let d = length-drop at bytes in length-take-le n _ (omega arith)

pub part-put_part : (bytes : List ℕ) (at : ℕ) (new : List ℕ) (n : ℕ) → length new ≡ n → at ≤ length bytes → part (put_part bytes at new) at n ≡ new
part-put_part bytes at new n e le =
    ap (take n) (drop_at _ _ at (length-take-le at bytes le)) ∙ take_at new (drop (length new) (drop at bytes)) n e

pub drop-put_part : (bytes : List ℕ) (at : ℕ) (new : List ℕ) (a : ℕ) → at + length new ≤ a → at + length new ≤ length bytes → drop a (put_part bytes at new) ≡ drop a bytes
drop-put_part bytes at new a above le =
    let front = take at bytes in
    let rest = drop (length new) (drop at bytes) in
    let k = a - (at + length new) in
    let long : length (front ++ new) ≡ at + length new = let one = length-append front new in let two = length-take-le at bytes (omega arith) in omega arith in
    let sum : at + length new + k ≡ a = omega arith in
    let one = ap (drop (at + length new)) (sym (append_assoc front new rest)) ∙ drop_at _ rest _ long in
    ap (λ j. drop j (front ++ (new ++ rest))) (sym sum)
    ∙ sym (drop-drop k _ _)
    ∙ ap (drop k) one
    ∙ ap (drop k) (drop-drop _ at bytes)
    ∙ drop-drop k _ bytes
    ∙ ap (λ j. drop j bytes) sum

pub take-put_part : (bytes : List ℕ) (at : ℕ) (new : List ℕ) (a : ℕ) → a ≤ at → at ≤ length bytes → take a (put_part bytes at new) ≡ take a bytes
take-put_part bytes at new a below le =
    let front : a ≤ length (take at bytes) = let e = length-take-le at bytes le in omega arith in
    take-append-le a _ _ front ∙ take-take a at bytes below

-- what holds of each byte, of the old ones and the new
pub All-put_part : (P : ℕ → Type 0) (bytes : List ℕ) (at : ℕ) (new : List ℕ) → All P bytes → All P new → All P (put_part bytes at new)
All-put_part P bytes at new old ours =
    All-append P (take at bytes) (new ++ drop (length new) (drop at bytes)) (All-take P at bytes old)
    (All-append P new _ ours (All-drop P (length new) (drop at bytes) (All-drop P at bytes old)))

-- lists that agree up to a place agree up to a lower one, and those that agree from a place on agree from a higher one on
pub take_lower : (xs ys : List ℕ) (a b : ℕ) → a ≤ b → take b xs ≡ take b ys → take a xs ≡ take a ys
take_lower xs ys a b le same = sym (take-take a b xs le) ∙ ap (take a) same ∙ take-take a b ys le

pub drop_higher : (xs ys : List ℕ) (a b : ℕ) → a ≤ b → drop a xs ≡ drop a ys → drop b xs ≡ drop b ys
drop_higher xs ys a b le same =
    let sum : a + (b - a) ≡ b = omega arith in
    ap (λ j. drop j xs) (sym sum) ∙ sym (drop-drop _ a xs) ∙ ap (drop _) same ∙ drop-drop _ a ys ∙ ap (λ j. drop j ys) sum

-- and in each part there
pub part_below : (xs ys : List ℕ) (at n b : ℕ) → at + n ≤ b → take b xs ≡ take b ys → part xs at n ≡ part ys at n
part_below xs ys at n b le same = sym (drop-take at n xs) ∙ ap (drop at) (take_lower xs ys _ b le same) ∙ drop-take at n ys

pub part_above : (xs ys : List ℕ) (at n b : ℕ) → b ≤ at → drop b xs ≡ drop b ys → part xs at n ≡ part ys at n
part_above xs ys at n b le same = ap (take n) (drop_higher xs ys b at le same)

-- The same of a range between two places.
pub range_part : (bytes : List ℕ) (at n : ℕ) → slice_range bytes at (at + n) ≡ part bytes at n
range_part bytes at n = let e : at + n - at ≡ n = omega arith in ap (λ k. take k (drop at bytes)) e

pub range-put_part : (bytes : List ℕ) (at n : ℕ) (new : List ℕ) → at ≤ length bytes → length new ≡ n → slice_range (put_part bytes at new) at (at + n) ≡ new
range-put_part bytes at n new le e = range_part _ at n ∙ part-put_part bytes at new n e le

pub range_apart : (bytes : List ℕ) (at : ℕ) (new : List ℕ) (q s : ℕ) → at + length new ≤ length bytes → (q + s ≤ at) ⊎ (at + length new ≤ q) → slice_range (put_part bytes at new) q (q + s) ≡ slice_range bytes q (q + s)
range_apart bytes at new q s le (inl below) =
    range_part _ q s ∙ part_below _ bytes q s at below (take-put_part bytes at new at (omega arith) (omega arith)) ∙ sym (range_part bytes q s)
range_apart bytes at new q s le (inr above) =
    range_part _ q s ∙ part_above _ bytes q s _ above (drop-put_part bytes at new _ (omega arith) le) ∙ sym (range_part bytes q s)
