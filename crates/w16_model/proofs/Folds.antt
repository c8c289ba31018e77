-- What the plain program's loops compute.
use Rattle.w16_model.proofs
use proofs.Common as C
use Rattle.std.specs.List.{AllByRecursion as Each}
use proofs.Common.{◌≡◌, ◌↔◌, ℕ, ◌+◌, ◌<◌, ◌≤◌, min, Bool, true, false, cond, ◌&&◌, nat_le, IsTrue, List, [], ◌∷◌, length, drop, get_or, map, filter, All, AllPairs, refl, sym, ap, ◌∙◌, subst, arith, and_from, Block, block_end, first_from, is_loose, begins_in, loose_bytes, ArePlaced}
use proofs.Gaps.{Each-map, Each-from_All, All-from_Each, EachPair-from_AllPairs, AllPairs-from_EachPair, pack}
use proofs.{Longest.sum_filter, Least.placed_filter}

-- what a read past the end of a list of blocks gives
abbrev pub no_block : Block
no_block = record { id = 0; at = 0; size = 0; hold = C.Pinned }

-- the heap's end stands for one block more
first_from-min : (test : Block → Bool) (hi e a : ℕ) (xs : List Block) → first_from test (min hi e) xs a ≡ min e (first_from test hi xs a)
first_from-min test hi e a [] = omega arith
first_from-min test hi e a (x ∷ xs) = turn (test x && nat_le a x.at) x.at _ _ (first_from-min test hi e a xs)
  where
    turn : (t : Bool) (at v w : ℕ) → v ≡ min e w → cond t (min at v) v ≡ min e (cond t (min at w) w)
    turn true at v w h = omega arith
    turn false at v w h = h

-- One turn of a loop over the blocks, from the front.
module _ (xs : List Block) (i : ℕ) (d : Block) (h : i < length xs) where
  -- the block of this turn
  abbrev here : Block
  here = get_or xs i d

  cut_here : drop i xs ≡ here ∷ drop (i + 1) xs
  cut_here = rw (C.add-one, C.drop-cons xs i d)

  pub first_from-taken : (test : Block → Bool) (e e' a total : ℕ) → first_from test e (drop i xs) a ≡ total → IsTrue (test here) → a ≤ here.at → e' ≡ min e here.at → first_from test e' (drop (i + 1) xs) a ≡ total
  first_from-taken test e e' a total k t l m =
      ap (λ v. first_from test v (drop (i + 1) xs) a) m ∙ first_from-min test e here.at a (drop (i + 1) xs)
      ∙ sym (C.cond-true (test here && nat_le a here.at) _ _ (and_from _ _ t (C.le-leb a here.at l))) ∙ sym (ap (λ ys. first_from test e ys a) cut_here) ∙ k

  pub first_from-passed : (test : Block → Bool) (e e' a total : ℕ) → first_from test e (drop i xs) a ≡ total → (test here && nat_le a here.at) ≡ false → e' ≡ e → first_from test e' (drop (i + 1) xs) a ≡ total
  first_from-passed test e e' a total k f m =
      ap (λ v. first_from test v (drop (i + 1) xs) a) m ∙ sym (C.cond-false (test here && nat_le a here.at) _ _ f) ∙ sym (ap (λ ys. first_from test e ys a) cut_here) ∙ k

  pub loose_bytes-here : (a b : ℕ) → loose_bytes (drop i xs) a b ≡ cond (is_loose here && begins_in a b here) here.size 0 + loose_bytes (drop (i + 1) xs) a b
  loose_bytes-here a b = ap (λ ys. loose_bytes ys a b) cut_here ∙ sum_filter (λ y. is_loose y && begins_in a b y) here (drop (i + 1) xs)

-- no block begins at the heap's end or past it
pub loose_bytes-end : (lo hi a b : ℕ) (xs : List Block) → ArePlaced lo hi xs → loose_bytes xs a (min b hi) ≡ loose_bytes xs a b
loose_bytes-end lo hi a b xs placed = go xs (Each-map (λ x. (lo ≤ x.at) × (0 < x.size) × (block_end x ≤ hi)) (λ x. x.at < hi) (λ x f. omega (arith, f.1, f.2)) xs (Each-from_All _ xs placed.inside))
  where
    same : (t : Bool) (p n : ℕ) → p < hi → cond (t && (nat_le a p && C.nat_lt p (min b hi))) n 0 ≡ cond (t && (nat_le a p && C.nat_lt p b)) n 0
    same t p n h = grind (arith, C.nat_tests)

    go : (xs : List Block) → Each (λ x. x.at < hi) xs → loose_bytes xs a (min b hi) ≡ loose_bytes xs a b
    go [] each = refl
    go (x ∷ xs) each = omega (arith, sum_filter (λ y. is_loose y && begins_in a (min b hi) y) x xs, sum_filter (λ y. is_loose y && begins_in a b y) x xs, same (is_loose x) x.at x.size each.0, go xs each.1)

-- a fact of each two blocks, split off the first
module _ {X : Type 0} (R : X → X → Type 0) where
  pub AllPairs-head : (x : X) (xs : List X) → AllPairs R (x ∷ xs) → All (R x) xs
  AllPairs-head x xs h = All-from_Each (R x) xs (EachPair-from_AllPairs R (x ∷ xs) h).0

  pub AllPairs-both : (x : X) (xs : List X) → All (R x) xs → AllPairs R xs → AllPairs R (x ∷ xs)
  AllPairs-both x xs h k = AllPairs-from_EachPair R (x ∷ xs) (Each-from_All (R x) xs h, EachPair-from_AllPairs R xs k)

  pub AllPairs-tail : (x : X) (xs : List X) → AllPairs R (x ∷ xs) → AllPairs R xs
  AllPairs-tail x xs h = AllPairs-from_EachPair R xs (EachPair-from_AllPairs R (x ∷ xs) h).1

-- the fact of all pairs, where what is left of the list decides it
pub pairs_left : {X : Type 0} (R : X → X → Type 0) (x : X) (xs rest all : List X) → rest ≡ x ∷ xs → All (R x) xs → AllPairs R rest ↔ AllPairs R all → AllPairs R xs ↔ AllPairs R all
pairs_left R x xs rest all e h k = (
  (λ pairs. k.0 (subst (AllPairs R) (sym e) (AllPairs-both R x xs h pairs))),
  (λ pairs. AllPairs-tail R x xs (subst (AllPairs R) e (k.1 pairs))),
)

pub pairs_fail : {X : Type 0} (R : X → X → Type 0) (x : X) (xs rest all : List X) → rest ≡ x ∷ xs → ¬ All (R x) xs → AllPairs R rest ↔ AllPairs R all → ¬ AllPairs R all
pairs_fail R x xs rest all e h k pairs = h (AllPairs-head R x xs (subst (AllPairs R) e (k.1 pairs)))

-- some of the blocks are together no longer than the heap
pub sizes_fit : (lo hi : ℕ) (p : Block → Bool) (xs : List Block) → ArePlaced lo hi xs → C.sum_by (λ x. x.size) (filter p xs) ≤ hi
sizes_fit lo hi p xs placed =
    let some = placed_filter lo hi p xs placed in
    let packed : 0 + C.sum_by (λ x. x.size) (filter p xs) ≤ hi = pack (λ x. x.size) (filter p xs) (λ x. x.at) 0 hi (omega arith)
    (Each-map (λ x. (lo ≤ x.at) × (0 < x.size) × (block_end x ≤ hi)) (λ x. (0 ≤ x.at) × (x.at + x.size ≤ hi)) (λ x f. (omega arith, f.2)) _ (Each-from_All _ _ some.inside))
    (EachPair-from_AllPairs (λ x y. C.Misses x.at _ y.at _) _ some.apart) in
    omega (arith, packed)

-- one block more beside those before it
pub loose_bytes-fit : (lo hi a b bytes i : ℕ) (d : Block) (xs : List Block) → ArePlaced lo hi xs → i < length xs → bytes + loose_bytes (drop i xs) a b ≡ loose_bytes xs a b
    → IsTrue (is_loose (get_or xs i d)) → a ≤ (get_or xs i d).at → (get_or xs i d).at < b → bytes + (get_or xs i d).size ≤ hi
loose_bytes-fit lo hi a b bytes i d xs placed h k t l m =
    let counted = and_from _ _ t (and_from _ _ (C.le-leb a _ l) (C.lt-ltb _ b m)) in
    let one = loose_bytes-here xs i d h a b ∙ ap (λ v. v + loose_bytes (drop (i + 1) xs) a b) (C.cond-true _ _ _ counted) in
    let whole = sizes_fit lo hi (λ y. is_loose y && begins_in a b y) xs placed in
    omega (arith, k, one, whole)

pub loose_bytes-all : (lo hi a b end bytes i : ℕ) (xs : List Block) → ArePlaced lo hi xs → length xs ≤ i → end ≡ min b hi → bytes + loose_bytes (drop i xs) a end ≡ loose_bytes xs a end → bytes ≡ loose_bytes xs a b
loose_bytes-all lo hi a b end bytes i xs placed h e k =
    let none = ap (λ ys. loose_bytes ys a end) (C.drop_of_length-le xs h) in
    let same = ap (loose_bytes xs a) e ∙ loose_bytes-end lo hi a b xs placed in
    omega (arith, k, none, same)

-- where the blocks that pass a test end
abbrev pub ends_of : (Block → Bool) → List Block → List ℕ
ends_of test xs = map block_end (filter test xs)
