-- What is written where there is no hole leaves the bytes in the holes.
use Rattle.w16_holes.proofs.Common as C
use Rattle.w16_holes.proofs.Common.{ℕ, ◌≤◌, ◌+◌, ◌⊎◌, List, [], ◌∷◌, length, arith, inl, inr, Span, put_part}

-- a free part and a used one share no byte
pub apart : (a b x y : ℕ) (hs : List Span) → C.IsFree a b hs → C.IsUsed x y hs → (b ≤ x) ⊎ (y ≤ a)
apart a b x y [] free used = absurd free
apart a b x y (h ∷ hs) free used = elim free [
  | inl here ↦ let s = here.0 in let e = here.1 in elim used.0 [
    | inl below ↦ inl (omega arith)
    | inr above ↦ inr (omega arith)
  ]
  | inr rest ↦ apart a b x y hs rest used.1
]

pub AreSameIn-put_part : (hs : List Span) (bytes : List ℕ) (to : ℕ) (new : List ℕ) → to + length new ≤ length bytes → C.IsUsed to (to + length new) hs → C.AreSameIn hs bytes (put_part bytes to new)
AreSameIn-put_part hs bytes to new le used = record {
  long = C.length-put_part bytes to new le;
  same = λ at n free. elim (apart at _ to _ hs free used) [
    | inl below ↦ C.part_below _ bytes at n to below (C.take-put_part bytes to new to (omega arith) (omega arith))
    | inr above ↦ C.part_above _ bytes at n _ above (C.drop-put_part bytes to new _ (omega arith) le)
  ];
}
