-- What may be discarded, along the order of use, and how many of these are needed.
use Rattle.w16_compact.proofs.Common as C
use Rattle.w16_compact.proofs.Common.{◌≡◌, ℕ, ◌+◌, ◌<◌, ◌≤◌, inl, inr, Bool, true, false, not, ◌&&◌, List, [], ◌∷◌, zero, suc, length, drop, Option, Some, None, refl, sym, ap, ◌∙◌, subst, arith, find, cond-false, Block, room, eligible, snapshot, take_past, Uses}
use Rattle.std.specs.List.{slice_get}

-- each member of an order is an id
pub below_cap : (most : ℕ) (uses : Uses) (i id : ℕ) (later : List ℕ) → C.AreUses uses → uses.cap ≤ most → drop i uses.ids ≡ id ∷ later → id < most
below_cap most uses i id later are le e =
    let got = got_dropped uses.ids i id later e in
    let here = C.All-get_or (λ q. q < uses.cap) uses.ids i id (C.slice_get_within _ i id got) are.below in
    let same = C.get_or_from_slice_get uses.ids i id id got in
    omega arith
  where
    got_dropped : (ids : List ℕ) (i id : ℕ) (later : List ℕ) → drop i ids ≡ id ∷ later → slice_get ids i ≡ Some id
    got_dropped [] zero id later e = cc
    got_dropped [] (suc i) id later e = cc
    got_dropped (x ∷ xs) zero id later e = let same : x ≡ id = cc in ap Some same
    got_dropped (x ∷ xs) (suc i) id later e = got_dropped xs i id later e

-- whether a request about h may discard an object of the order
abbrev pub may_go : List Block → Option ℕ → ℕ → Bool
may_go xs h id = not (C.is_pinned_id xs id) && not (C.is_about h id)

-- the next of an order is the first of those that may be discarded from there on, or is passed over
pub first_here : (xs : List Block) (h : Option ℕ) (id : ℕ) (later rest : List ℕ) → rest ≡ id ∷ later → may_go xs h id ≡ true → eligible xs rest h ≡ id ∷ eligible xs later h
first_here xs h id later rest e t = ap (λ qs. eligible xs qs h) e ∙ C.cond-true _ _ _ t

pub passed_here : (xs : List Block) (h : Option ℕ) (id : ℕ) (later rest : List ℕ) → rest ≡ id ∷ later → may_go xs h id ≡ false → eligible xs rest h ≡ eligible xs later h
passed_here xs h id later rest e f = ap (λ qs. eligible xs qs h) e ∙ cond-false _ _ _ f

-- the first of some numbers in a row that passes
find-first : (p : ℕ → Bool) (m a k : ℕ) → a ≤ k → k < a + m → p k ≡ true → ((j : ℕ) → a ≤ j → j < k → p j ≡ false) → find p (C.range_with_len a m) ≡ Some k
find-first p zero a k le lt t before = absurd (omega arith)
find-first p (suc m) a k le lt t before = elim (C.cases_lt a k) [
  | inl l ↦ cond-false (p a) _ _ (before a (omega arith) l) ∙ find-first p m (a + 1) k (omega arith) (omega arith) t (λ j l1 l2. before j (omega arith) l2)
  | inr l ↦ let same : k ≡ a = omega arith in C.cond-true (p a) _ _ (subst (λ v. p v ≡ true) same t) ∙ ap (λ v. Some v) (sym same)
]

find-none : (p : ℕ → Bool) (m a : ℕ) → ((j : ℕ) → j < a + m → p j ≡ false) → find p (C.range_with_len a m) ≡ None
find-none p zero a all = refl
find-none p (suc m) a all = cond-false (p a) _ _ (all a (omega arith)) ∙ find-none p m (a + 1) (λ j l. all j (omega arith))

module _ (lo hi : ℕ) (xs : List Block) (order : List ℕ) (h : Option ℕ) where
  abbrev room_of : ℕ → ℕ
  room_of k = C.room_for (snapshot lo hi xs order) k h

  abbrev all : ℕ
  all = length (eligible xs order h)

  -- past all that may be discarded, more discards leave no more room
  pub room_past : (k most : ℕ) → k ≤ most → drop k (eligible xs order h) ≡ [] → room_of k ≡ room_of most
  room_past k most le none =
      let long = C.length-drop k (eligible xs order h) in
      let zeroth : length (drop k (eligible xs order h)) ≡ 0 = ap (length {A = ℕ}) none in
      ap (λ ids. room lo hi (C.blocks_without xs ids h)) (take_past k (eligible xs order h) (omega arith) ∙ sym (take_past most (eligible xs order h) (omega arith)))

  module _ (n : ℕ) where
    -- the least number that leaves enough room is needed
    pub least_needed : (k : ℕ) → n ≤ room_of k → ((j : ℕ) → j < k → room_of j < n) → Some k ≡ C.needed (snapshot lo hi xs order) n h
    least_needed k enough fewer =
        let within : k < all + 1 = elim (C.cases_lt all k) [
          | inl lt ↦
              let last : room_of k ≡ room_of all = ap (λ ids. room lo hi (C.blocks_without xs ids h)) (take_past k (eligible xs order h) (omega arith) ∙ sym (take_past all (eligible xs order h) (omega arith))) in
              absurd (omega (arith, fewer all lt, last, enough))
          | inr l ↦ omega arith
        ] in
        sym (find-first (λ j. C.nat_le n (room_of j)) (all + 1) 0 k (omega arith) (omega arith) (C.le-leb n (room_of k) enough) (λ j _ l. C.lt-leb n (room_of j) (fewer j l)))

    -- where all that are used leave too little none is
    pub none_needed : room_of (length order) < n → None ≡ C.needed (snapshot lo hi xs order) n h
    none_needed few =
        let le : all ≤ length order = let e = C.length-filter (may_go xs h) order in omega (arith, C.count_by-le-length (may_go xs h) order) in
        sym (find-none (λ j. C.nat_le n (room_of j)) (all + 1) 0 (λ j l. C.lt-leb n (room_of j) (omega (arith, C.more_discards_law lo hi xs order h j (length order) (omega arith), few))))
