-- The bytes of the loose blocks of an interval.
use Rattle.w16_compact.proofs.Common as C
use Rattle.w16_compact.proofs.Common.{◌≡◌, ℕ, ◌+◌, ◌<◌, ◌≤◌, ◌⊎◌, inl, inr, true, false, cond, not, ◌&&◌, nat_le, nat_lt, List, [], ◌∷◌, ◌++◌, refl, sym, ap, arith, Block, Loose, is_loose, begins_in, loose_bytes}
use Rattle.std.proofs.Common.{lt-ltb}

pub loose_one : (x : Block) (xs : List Block) (a b : ℕ) → loose_bytes (x ∷ xs) a b ≡ cond (is_loose x && begins_in a b x) x.size 0 + loose_bytes xs a b
loose_one x xs a b = C.sum_filter (λ y. is_loose y && begins_in a b y) x xs

pub loose_append : (xs ys : List Block) (a b : ℕ) → loose_bytes (xs ++ ys) a b ≡ loose_bytes xs a b + loose_bytes ys a b
loose_append [] ys a b = sym (C.zero-add _)
loose_append (x ∷ xs) ys a b = let one = loose_one x (xs ++ ys) a b in let two = loose_one x xs a b in let ih = loose_append xs ys a b in omega (arith, one, two, ih)

-- blocks that begin below a, or from b on, have no byte counted
pub loose_none : (xs : List Block) (a b : ℕ) → C.AllByRecursion (λ x. (x.at < a) ⊎ (b ≤ x.at)) xs → loose_bytes xs a b ≡ 0
loose_none [] a b all = refl
loose_none (x ∷ xs) a b all =
    let out = C.and_right (is_loose x) (begins_in a b x) (elim all.0 [
      | inl lt ↦ C.and_left (nat_le a x.at) (nat_lt x.at b) (C.lt-leb a x.at lt)
      | inr le ↦ C.and_right (nat_le a x.at) (nat_lt x.at b) (C.le-ltb x.at b le)
    ]) in
    let one = loose_one x xs a b in
    let two = C.cond-false (is_loose x && begins_in a b x) x.size 0 out in
    let ih = loose_none xs a b all.1 in
    omega (arith, one, two, ih)

pub loose_here : (x : Block) (xs : List Block) (a b : ℕ) → x.hold ≡ Loose → a ≤ x.at → x.at < b → loose_bytes (x ∷ xs) a b ≡ x.size + loose_bytes xs a b
loose_here x xs a b e le lt =
    let in_it = C.and_from (is_loose x) (begins_in a b x) (ap (λ h. not (C.holds_still h)) e) (C.and_from (nat_le a x.at) (nat_lt x.at b) (C.le-leb a x.at le) (lt-ltb x.at b lt)) in
    let one = loose_one x xs a b in let two = C.cond-true (is_loose x && begins_in a b x) x.size 0 in_it in
    omega (arith, one, two)
