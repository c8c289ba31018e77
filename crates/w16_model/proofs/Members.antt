-- Lists with the same members, and what depends on the members alone.
use Rattle.w16_model.proofs
use proofs.Common as C
use proofs.Gaps as M
use Rattle.std.specs.List.{AllByRecursion as Each}
use proofs.Common.{◌≡◌, ◌≢◌, ℕ, ◌-◌, ◌≤◌, ◌⊎◌, inl, inr, Bool, true, false, cond, ◌&&◌, IsTrue, List, [], ◌∷◌, ◌++◌, map, filter, sum_by, refl, sym, ap, ◌∙◌, subst, arith, IsPermutation, false≢true, IsPermutation-sym, Block, is_pinned, block_end, first_from, largest, room_from, room}
use proofs.Common.{starts}
use proofs.{Gaps.Member, Gaps.Each-at, Longest.sum_filter}

module _ {X : Type 0} where
  -- a list around one of its members
  abbrev Around : X → List X → Type 0
  Around x ys = (front : List X) × (back : List X) × (ys ≡ front ++ x ∷ back)

  around : (x : X) (ys : List X) → Member x ys → Around x ys
  around x [] m = absurd m
  around x (y ∷ ys) (inl e) = ([], ys, λ i. sym e i ∷ ys)
  around x (y ∷ ys) (inr m) = let rest : Around x ys = around x ys m in (y ∷ rest.0, rest.1, ap (λ zs. y ∷ zs) rest.2)

  member_append : (x : X) (ys zs : List X) → Member x (ys ++ zs) → Member x ys ⊎ Member x zs
  member_append x [] zs m = inr m
  member_append x (y ∷ ys) zs (inl e) = inl (inl e)
  member_append x (y ∷ ys) zs (inr m) = elim (member_append x ys zs m) [ inl n ↦ inl (inr n) | inr n ↦ inr n ]

  member_left : (x : X) (ys zs : List X) → Member x ys → Member x (ys ++ zs)
  member_left x [] zs m = absurd m
  member_left x (y ∷ ys) zs (inl e) = inl e
  member_left x (y ∷ ys) zs (inr m) = inr (member_left x ys zs m)

  member_right : (x : X) (ys zs : List X) → Member x zs → Member x (ys ++ zs)
  member_right x [] zs m = m
  member_right x (y ∷ ys) zs m = inr (member_right x ys zs m)

  abbrev pub AllDiffer : List X → Type 0
  AllDiffer = M.EachPair (λ x y. x ≢ y)

  -- taking one out of the middle keeps the others apart
  differ_middle : (front : List X) (x : X) (back : List X) → AllDiffer (front ++ x ∷ back) → AllDiffer (front ++ back) × ((y : X) → Member y (front ++ back) → x ≢ y)
  differ_middle [] x back h = (h.1, Each-at (λ y. x ≢ y) back h.0)
  differ_middle (z ∷ front) x back h =
      let rest : AllDiffer (front ++ back) × ((y : X) → Member y (front ++ back) → x ≢ y) = differ_middle front x back h.1 in
      let z_apart : (y : X) → Member y (front ++ x ∷ back) → z ≢ y = Each-at (λ y. z ≢ y) (front ++ x ∷ back) h.0 in (
        (
          M.Each-from (λ y. z ≢ y) (front ++ back) (λ y m. z_apart y (elim (member_append y front back m) [ inl n ↦ member_left y front (x ∷ back) n | inr n ↦ member_right y front (x ∷ back) (inr n) ])),
          rest.0,
        ),
        λ y m. elim m [
          | inl e ↦ λ same. z_apart x (member_right x front (x ∷ back) (inl refl)) (sym e ∙ sym same)
          | inr n ↦ rest.1 y n
        ],
      )

  -- two lists without repeats that have the same members are one in another order
  pub permutation_from : (xs ys : List X) → AllDiffer xs → AllDiffer ys → ((x : X) → Member x xs → Member x ys) → ((x : X) → Member x ys → Member x xs) → IsPermutation xs ys
  permutation_from [] [] dx dy f g = C.IsPermutation-refl []
  permutation_from [] (y ∷ ys) dx dy f g = absurd (g y (inl refl))
  permutation_from (x ∷ xs) ys dx dy f g =
      let at : Around x ys = around x ys (f x (inl refl)) in
      let left : AllDiffer (at.0 ++ at.1) × ((y : X) → Member y (at.0 ++ at.1) → x ≢ y) = differ_middle at.0 x at.1 (subst AllDiffer at.2 dy) in
      let rest : IsPermutation xs (at.0 ++ at.1) = permutation_from xs (at.0 ++ at.1) dx.1 left.0
      (λ y m. elim (member_append y at.0 (x ∷ at.1) (subst (λ zs. Member y zs) at.2 (f y (inr m)))) [
        | inl n ↦ member_left y at.0 at.1 n
        | inr (inl e) ↦ absurd (Each-at (λ z. x ≢ z) xs dx.0 y m (sym e))
        | inr (inr n) ↦ member_right y at.0 at.1 n
      ])
      (λ y m. elim (g y (subst (λ zs. Member y zs) (sym at.2) (elim (member_append y at.0 at.1 m) [ inl n ↦ member_left y at.0 (x ∷ at.1) n | inr n ↦ member_right y at.0 (x ∷ at.1) (inr n) ]))) [
        | inl e ↦ absurd (left.1 y m (sym e))
        | inr n ↦ n
      ]) in
      subst (λ zs. IsPermutation (x ∷ xs) zs) (sym at.2)
      (C.IsPermutation-trans (x ∷ xs) (x ∷ (at.0 ++ at.1)) (at.0 ++ x ∷ at.1) (C.IsPermutation-cons x xs (at.0 ++ at.1) rest)
      (IsPermutation-sym (at.0 ++ x ∷ at.1) (x ∷ (at.0 ++ at.1)) (C.IsPermutation-middle at.0 x at.1)))

-- what holds of each member of a list holds of each in another order
each_permutation : {X : Type 0} (P : X → Type 0) (xs ys : List X) → IsPermutation xs ys → Each P xs → Each P ys
each_permutation P xs ys perm h = M.Each-from_All P ys (C.All-permutation P xs ys perm (M.All-from_Each P xs h))

bytes_by : (p : Block → Bool) (xs : List Block) → sum_by (λ x. x.size) (filter p xs) ≡ sum_by (λ x. cond (p x) x.size 0) xs
bytes_by p [] = refl
bytes_by p (x ∷ xs) = omega (arith, sum_filter p x xs, bytes_by p xs, C.sum_by-cons (λ y. cond (p y) y.size 0) x xs)

bytes_permutation : (p : Block → Bool) (xs ys : List Block) → IsPermutation xs ys → sum_by (λ x. x.size) (filter p xs) ≡ sum_by (λ x. x.size) (filter p ys)
bytes_permutation p xs ys perm = bytes_by p xs ∙ sym (C.sum_by-IsPermutation (λ x. cond (p x) _ 0) xs ys perm) ∙ sym (bytes_by p ys)

module _ (hi : ℕ) (xs ys : List Block) (perm : IsPermutation xs ys) where
  first_le : (a : ℕ) → first_from is_pinned hi xs a ≤ first_from is_pinned hi ys a
  first_le a =
      let all : (first_from is_pinned hi xs a ≤ hi) × Each (λ x. IsTrue (is_pinned x) → a ≤ x.at → first_from is_pinned hi xs a ≤ x.at) xs = M.first_from-below is_pinned hi xs a (first_from is_pinned hi xs a) (omega arith) in
      M.first_from-greatest is_pinned hi ys a (first_from is_pinned hi xs a) all.0 (each_permutation (λ x. IsTrue (is_pinned x) → a ≤ x.at → first_from is_pinned hi xs a ≤ x.at) xs ys perm all.1)

largest_at_most : (f : ℕ → ℕ) (ns : List ℕ) (m : ℕ) → Each (λ n. f n ≤ m) ns → largest (map f ns) ≤ m
largest_at_most f [] m h = omega arith
largest_at_most f (n ∷ ns) m h = let rest = largest_at_most f ns m h.1 in omega (arith, h.0, rest)

at_most_largest : (f : ℕ → ℕ) (ns : List ℕ) (m : ℕ) → largest (map f ns) ≤ m → Each (λ n. f n ≤ m) ns
at_most_largest f [] m h = tt
at_most_largest f (n ∷ ns) m h = (omega arith, at_most_largest f ns m (omega arith))

-- a fact of each end, and of each pinned block
ends_to : (P : ℕ → Type 0) (xs : List Block) → Each P (map block_end (filter is_pinned xs)) → Each (λ x. IsTrue (is_pinned x) → P (block_end x)) xs
ends_to P [] h = tt
ends_to P (x ∷ xs) h =
    elim (is_pinned x) as (λ b. is_pinned x ≡ b → Each P (map block_end (cond {A = List Block} b (x ∷ filter is_pinned xs) (filter is_pinned xs))) → (IsTrue (is_pinned x) → P (block_end x)) × Each (λ x. IsTrue (is_pinned x) → P (block_end x)) xs) [
      | true ↦ λ e k. ((λ _. k.0), ends_to P xs k.1)
      | false ↦ λ e k. ((λ t. absurd (false≢true (sym e ∙ t))), ends_to P xs k)
    ] refl h

-- no order of the blocks changes the room
pub room-permutation_le : (lo hi : ℕ) (xs ys : List Block) → IsPermutation xs ys → room lo hi ys ≤ room lo hi xs
room-permutation_le lo hi xs ys perm =
    let same : (a : ℕ) → first_from is_pinned hi ys a ≡ first_from is_pinned hi xs a = λ a. omega (arith, first_le hi xs ys perm a, first_le hi ys xs (IsPermutation-sym xs ys perm) a) in
    let from : (a : ℕ) → room_from hi ys a ≡ room_from hi xs a = λ a.
    ap (λ e. e - a - C.loose_bytes ys a e) (same a) ∙ ap (λ n. first_from is_pinned hi xs a - a - n) (sym (bytes_permutation (λ x. C.is_loose x && C.begins_in a (first_from _ hi xs a) x) xs ys perm)) in
    let all : Each (λ n. room_from hi xs n ≤ room lo hi xs) (starts is_pinned lo xs) = at_most_largest (room_from hi xs) (starts _ lo xs) (room lo hi xs) (omega arith) in
    largest_at_most (room_from hi ys) (starts _ lo ys) (room lo hi xs) (
      omega (arith, from lo, all.0),
      M.Each-of_map (λ n. room_from hi ys n ≤ room lo hi xs) _ _ (M.Each-filter (λ x. room_from hi ys _ ≤ room lo hi xs) _ ys
          (each_permutation (λ x. IsTrue _ → room_from hi ys _ ≤ room lo hi xs) xs ys perm
          (M.Each-map _ _ (λ x f t. subst (λ v. v ≤ room lo hi xs) (sym (from _)) (f t)) xs (ends_to (λ n. room_from hi xs n ≤ room lo hi xs) xs all.1)))),
    )

pub room-permutation : (lo hi : ℕ) (xs ys : List Block) → IsPermutation xs ys → room lo hi ys ≡ room lo hi xs
room-permutation lo hi xs ys perm = omega (arith, room-permutation_le lo hi xs ys perm, room-permutation_le lo hi ys xs (IsPermutation-sym xs ys perm))
