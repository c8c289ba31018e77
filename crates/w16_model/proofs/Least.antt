-- Fewer discards never serve.
use Rattle.w16_model.proofs
use proofs.Common as C
use proofs.Gaps as M
use proofs.Common.{◌≡◌, ℕ, zero, suc, ◌+◌, ◌<◌, ◌≤◌, inl, inr, Bool, true, false, cond, not, ◌||◌, List, [], ◌∷◌, length, take, filter, Some, None, refl, sym, ap, ◌∙◌, subst, arith, find, range_with_len, cases_lt, Block, block_end, ArePlaced, room, eligible, room_for, snapshot}
use proofs.Longest.{none_longer}

-- some of the placed blocks are placed
pub placed_filter : (lo hi : ℕ) (p : Block → Bool) (xs : List Block) → ArePlaced lo hi xs → ArePlaced lo hi (filter p xs)
placed_filter lo hi p xs h = record {
  inside = M.All-from_Each (λ x. (lo ≤ x.at) × (0 < x.size) × (block_end x ≤ hi)) _ (M.Each-filter (λ x. (lo ≤ x.at) × (0 < x.size) × (block_end x ≤ hi)) p xs
      (M.Each-map (λ x. (lo ≤ x.at) × (0 < x.size) × (block_end x ≤ hi)) (λ x. C.IsTrue (p x) → (lo ≤ x.at) × (0 < x.size) × (block_end x ≤ hi)) (λ x f _. f) xs (M.Each-from_All _ xs h.inside)));
  apart = M.AllPairs-from_EachPair (λ x y. C.Misses x.at x.size y.at (block_end y)) _ (M.pairs_filter (λ x y. C.Misses x.at _ y.at _) p xs (M.EachPair-from_AllPairs _ xs h.apart));
}

-- the first number that passes, of some in a row
find_first : (p : ℕ → Bool) (m a k : ℕ) → find p (range_with_len a m) ≡ Some k → (a ≤ k) × (p k ≡ true) × ((j : ℕ) → a ≤ j → j < k → p j ≡ false)
find_first p zero a k h = cc
find_first p (suc m) a k h =
    elim (p a) as (λ b. p a ≡ b → cond b (Some a) (find p (range_with_len (a + 1) m)) ≡ Some k → (a ≤ k) × (p k ≡ true) × ((j : ℕ) → a ≤ j → j < k → p j ≡ false)) [
      | true ↦ λ t e. let same : a ≡ k = cc in (omega (arith, same), subst (λ v. p v ≡ true) same t, λ j l1 l2. absurd (omega (arith, same)))
      | false ↦ λ t e.
          let rest = find_first p m _ k e in
          (omega (arith, rest.0), rest.1, λ j l1 l2. elim (cases_lt a j) [ inl l ↦ rest.2 j (omega arith) l2 | inr l ↦ let same : a ≡ j = omega arith in subst (λ v. p v ≡ false) same t ])
    ] refl h

find_no : (p : ℕ → Bool) (m a : ℕ) → find p (range_with_len a m) ≡ None → (j : ℕ) → a ≤ j → j < a + m → p j ≡ false
find_no p zero a h j l1 l2 = absurd (omega arith)
find_no p (suc m) a h j l1 l2 =
    elim (p a) as (λ b. p a ≡ b → cond b (Some a) (find p (range_with_len (a + 1) m)) ≡ None → p j ≡ false) [
      | true ↦ λ t e. cc
      | false ↦ λ t e. elim (cases_lt a j) [ inl l ↦ find_no p m (a + 1) e j (omega arith) (omega arith) | inr l ↦ let same : a ≡ j = omega arith in subst (λ v. p v ≡ false) same t ]
    ] refl h

pub take_past : (k : ℕ) (ids : List ℕ) → length ids ≤ k → take k ids ≡ ids
take_past zero [] h = refl
take_past zero (q ∷ ids) h = absurd (omega arith)
take_past (suc k) [] h = refl
take_past (suc k) (q ∷ ids) h = ap (λ r. q ∷ r) (take_past k ids (omega arith))

module _ (lo hi : ℕ) (xs : List Block) (order : List ℕ) (n : ℕ) (h : C.Option ℕ) where
  -- more discards than there are eligible are as many as there are
  room-past : (k : ℕ) → length (eligible xs order h) ≤ k → room_for (snapshot lo hi xs order) k h ≡ room_for (snapshot lo hi xs order) (length (eligible xs order h)) h
  room-past k l = ap (λ (ids : List ℕ). room lo hi (C.blocks_without xs ids h)) (take_past k (eligible xs order h) l ∙ sym (take_past (length (eligible xs order h)) (eligible xs order h) (omega arith)))

  serves : ℕ → Bool
  serves k = C.nat_le n (room_for (snapshot lo hi xs order) k h)

  pub needed-Some : (k : ℕ) → C.needed (snapshot lo hi xs order) n h ≡ Some k → (n ≤ room_for (snapshot lo hi xs order) k h) × ((j : ℕ) → j < k → room_for (snapshot lo hi xs order) j h < n)
  unfolding serves
  needed-Some k e =
      let first : (0 ≤ k) × (serves k ≡ true) × ((j : ℕ) → 0 ≤ j → j < k → serves j ≡ false) = find_first serves (length (eligible xs order h) + 1) 0 k e in
      (C.leb-true n (room_for (snapshot lo hi xs order) k h) first.1, λ j l. C.leb-false n (room_for (snapshot lo hi xs order) j h) (first.2 j (omega arith) l))

  pub needed-None : C.needed (snapshot lo hi xs order) n h ≡ None → (j : ℕ) → room_for (snapshot lo hi xs order) j h < n
  unfolding serves
  needed-None e j =
      let all : (i : ℕ) → i < length (eligible xs order h) + 1 → room_for (snapshot lo hi xs order) i h < n = λ i l. C.leb-false n (room_for (snapshot lo hi xs order) i h) (find_no serves (length (eligible xs order h) + 1) 0 e i (omega arith) (omega arith)) in
      elim (cases_lt (length (eligible xs order h)) j) [
        | inl l ↦ omega (arith, room-past j (omega arith), all (length (eligible xs order h)) (omega arith))
        | inr l ↦ all j (omega arith)
      ]

  pub no_stretch : ArePlaced lo hi xs → (k : ℕ) → room_for (snapshot lo hi xs order) k h < n → C.NoStretch lo hi xs order k h n
  no_stretch placed k l place a b arranged free =
      let ids : List ℕ = take k (eligible xs order h) in
      omega (arith, none_longer lo hi (C.blocks_without xs ids h) (placed_filter lo hi (λ x. not (C.is_member x.id ids || C.is_about h x.id)) xs placed) place a b arranged free)

  pub least : ArePlaced lo hi xs → C.DiscardsAreLeast lo hi xs order n h
  least placed = record {
    fewer = λ k j e l. no_stretch placed j ((needed-Some k e).1 j l);
    none = λ j e. no_stretch placed j (needed-None e j);
  }

pub discards_are_least : C.LeastLaw
discards_are_least lo hi xs order placed n h = least lo hi xs order n h placed
