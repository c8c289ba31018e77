-- A walk to the lowest gap with room.
use Rattle.w16_compact.proofs
use proofs.Common as C
use proofs.Common.{◌≡◌, ℕ, ◌+◌, ◌<◌, ◌≤◌, ◌^◌, ◌⊎◌, inl, inr, true, false, IsTrue, List, [], ◌∷◌, ◌++◌, take, drop, zero, suc, refl, sym, ap, ◌∙◌, subst, arith, AllByRecursion, Block, Hold, Loose, IsLaid, IsGap, room, is_pinned, loose_bytes, block_end, Member, Each-map, Gap, Reached}
use proofs.Common.{HasRoom}
use proofs.Loose.{loose_append, loose_none, loose_here}
use proofs.Bounded.{IsFloor, IsCeiling, between, clear_pinned}
use proofs.Skips.{passed, rest_is, each_here}

pub each_append : (P : Block → Type 0) (xs ys : List Block) → AllByRecursion P xs → AllByRecursion P ys → AllByRecursion P (xs ++ ys)
each_append P [] ys all more = more
each_append P (x ∷ xs) ys all more = (all.0, each_append P xs ys all.1 more)

pub laid_from : (low hi : ℕ) (xs : List Block) → IsLaid low hi xs → AllByRecursion (λ x. (low ≤ x.at) × (0 < x.size)) xs
laid_from low hi [] laid = tt
laid_from low hi (x ∷ xs) laid =
    let one = laid.0 in
    ((laid.0, laid.1), Each-map (λ y. (block_end x ≤ y.at) × (0 < y.size)) (λ y. (low ≤ y.at) × (0 < y.size)) (λ y f. let k = f.0 in (omega arith, f.1)) xs (laid_from (block_end x) hi xs laid.2))

not_pinned : (h : Hold) → C.holds_still h ≡ false → h ≡ Loose
not_pinned C.Pinned e = cc
not_pinned Loose e = refl

-- where a block lies that the walk has passed
abbrev IsBehind : ℕ → ℕ → Block → Type 0
IsBehind low mid x = (0 < x.size) × ((block_end x ≤ low) ⊎ ((low ≤ x.at) × (block_end x ≤ mid) × (x.hold ≡ Loose)))

module _ (l : C.Layout) (n : ℕ) (ordered : C.IsOrdered l) where
  abbrev xs : List Block
  xs = l.blocks

  -- what holds before the i-th block, where those before it end at or below `mid`
  pub record IsWalked (i : ℕ) (r : Reached) : Type 0 where
    pub mid : ℕ
    pub laid : IsLaid mid l.hi (drop i xs)
    pub fits : r.low + r.loose ≤ mid
    pub from : l.lo ≤ r.low
    pub grained : C.IsMultiple l.grain r.low
    pub floor : IsFloor (λ x. IsTrue (is_pinned x)) l.lo xs r.low
    pub before : AllByRecursion (IsBehind r.low mid) (take i xs)
    pub sizes : (b : ℕ) → mid ≤ b → loose_bytes (take i xs) r.low b ≡ r.loose
    pub lowest : C.IsLowest l n r.low

  -- the gap reached, where it ends at a place and the blocks from here on begin at it or behind
  module _ (i : ℕ) (r : Reached) (now : IsWalked i r) (high : ℕ) (far : now.mid ≤ high) (inside : high ≤ l.hi) (ahead : AllByRecursion (λ x. high ≤ x.at) (drop i xs)) where
    pub may_here : C.MayGather l r.low high
    may_here = let one = now.fits in record {
      inside = (now.from, omega arith, inside);
      loose = subst (AllByRecursion _) (C.take-append-drop i xs) (each_append _ (take i xs) (drop i xs)
          (Each-map (IsBehind r.low now.mid) _ (λ b f. elim f.1 [ inl e ↦ inl e | inr k ↦ let m = k.1 in inr (inr (k.0, omega arith, k.2)) ]) (take i xs) now.before)
          (Each-map (λ x. high ≤ x.at) _ (λ b f. inr (inl f)) (drop i xs) ahead));
    }

    pub loose_is : r.loose ≡ loose_bytes xs r.low high
    loose_is =
        let none : loose_bytes (drop i xs) r.low high ≡ 0 = loose_none (drop i xs) r.low high (Each-map (λ x. high ≤ x.at) _ (λ b f. inr f) (drop i xs) ahead) in
        let front = now.sizes high far in
        let whole : loose_bytes (take i xs ++ drop i xs) r.low high ≡ r.loose = loose_append (take i xs) (drop i xs) r.low high ∙ omega (arith, none, front) in
        sym (ap (λ ys. loose_bytes ys r.low high) (sym (C.take-append-drop i xs)) ∙ whole)

    pub room_here : 0 < n → r.low + r.loose + n ≤ high → IsCeiling (λ x. IsTrue (is_pinned x)) l.hi xs high → HasRoom l n (record { low = r.low; high = high; loose = r.loose })
    room_here some enough ceiling = record {
      gap = between l.lo l.hi xs ordered.laid is_pinned r.low high (omega arith) (clear_pinned l r.low high may_here) now.floor ceiling;
      loose = loose_is;
      room = enough;
      grained = now.grained;
      may = may_here;
    }

    -- a gap inside it is the same, and has no room where this one has none
    pub no_room : high < r.low + r.loose + n → (a b : ℕ) → IsGap l.lo l.hi xs a b → r.low ≤ a → b ≤ high → a + loose_bytes xs a b + n ≤ b → ⊥
    no_room less a b gap low_below b_below enough =
        let same : (r.low ≡ a) × (high ≡ b) = gap.maximal r.low high low_below b_below (clear_pinned l r.low high may_here) in
        let k : loose_bytes xs a b ≡ r.loose = ap (λ v. loose_bytes xs v b) (sym same.0) ∙ ap (loose_bytes xs r.low) (sym same.1) ∙ sym loose_is in
        let one = same.0 in let two = same.1 in
        omega arith

  -- a turn of the walk, at the i-th block
  module _ (x : Block) (left : List Block) (i : ℕ) (here : drop i xs ≡ x ∷ left) (r : Reached) (now : IsWalked i r) where
    cut : drop i xs ≡ x ∷ drop (i + 1) xs
    cut = here ∙ ap (λ (ys : List Block). x ∷ ys) (sym (rest_is xs x left i here))

    taken : take (i + 1) xs ≡ take i xs ++ x ∷ []
    taken = turn i xs (drop (i + 1) xs) cut
      where
        turn : (i : ℕ) (ys rest : List Block) → drop i ys ≡ x ∷ rest → take (i + 1) ys ≡ take i ys ++ x ∷ []
        turn i ys rest e = rw C.add-one (step i ys rest e)
          where
            step : (i : ℕ) (ys rest : List Block) → drop i ys ≡ x ∷ rest → take (suc i) ys ≡ take i ys ++ x ∷ []
            step zero [] rest e = cc
            step zero (y ∷ ys) rest e = let h : y ≡ x = cc in ap (λ (z : Block). z ∷ []) h
            step (suc i) [] rest e = cc
            step (suc i) (y ∷ ys) rest e = ap (λ zs. y ∷ zs) (step i ys rest e)

    laid_here : (now.mid ≤ x.at) × (0 < x.size) × IsLaid (block_end x) l.hi (drop (i + 1) xs)
    laid_here = subst (IsLaid now.mid l.hi) cut now.laid

    ends_here : block_end x ≤ l.hi
    ends_here = C.laid_le (block_end x) l.hi (drop (i + 1) xs) laid_here.2

    pub reaches : r.low + r.loose ≤ x.at
    reaches = let one = laid_here.0 in let two = now.fits in omega arith

    pub fits_here : (block_end x < 2 ^ 32) × (r.loose + x.size < 2 ^ 32)
    fits_here = let one = ends_here in let two = reaches in let small = ordered.small in (omega arith, omega arith)

    ahead : AllByRecursion (λ y. x.at ≤ y.at) (drop i xs)
    ahead = subst (AllByRecursion (λ y. x.at ≤ y.at)) (sym cut) (Each-map (λ y. (x.at ≤ y.at) × (0 < y.size)) (λ y. x.at ≤ y.at) (λ y f. f.0) (x ∷ drop (i + 1) xs) (laid_from x.at l.hi (x ∷ drop (i + 1) xs) (omega arith, laid_here.1, laid_here.2)))

    member : Member x xs
    member = each_here (λ y. Member y xs) xs x left i here (C.Each-from (λ y. Member y xs) xs (λ y m. m))

    -- the gap that ends here
    pub gap_here : IsTrue (is_pinned x) → 0 < n → r.low + r.loose + n ≤ x.at → HasRoom l n (record { low = r.low; high = x.at; loose = r.loose })
    gap_here pinned some enough = let end = ends_here in room_here i r now x.at laid_here.0 (omega arith) ahead some enough (inr (x, member, pinned, refl))

    walked_pinned : is_pinned x ≡ true → x.at < r.low + r.loose + n → IsWalked (i + 1) (record { low = block_end x; loose = 0 })
    walked_pinned pinned less =
        let far = laid_here.0 in let fit = now.fits in let from = now.from in let end = ends_here in
        record {
          mid = block_end x;
          laid = laid_here.2;
          fits = omega arith;
          from = omega arith;
          grained = let grained = each_here (C.IsGrained l.grain) xs x left i here ordered.grained in let g = grained.0 in let h = grained.1 in (g.0 + h.0, let u = g.1 in let v = h.1 in omega (arith, u, v));
          floor = inr (x, member, pinned, refl);
          before = subst (AllByRecursion (IsBehind (block_end x) (block_end x))) (sym taken) (each_append _ (take i xs) (x ∷ [])
              (Each-map (IsBehind r.low now.mid) _ (λ b f. (f.0, elim f.1 [ inl k ↦ inl (omega arith) | inr k ↦ let m = k.1 in inl (omega arith) ])) (take i xs) now.before)
              ((laid_here.1, inl (omega arith)), tt));
          sizes = λ b le. ap (λ ys. loose_bytes ys (block_end x) b) taken ∙ loose_none (take i xs ++ x ∷ []) (block_end x) b (each_append _ (take i xs) (x ∷ [])
              (Each-map (IsBehind r.low now.mid) _ (λ b f. let s = f.0 in inl (elim f.1 [ inl k ↦ omega arith | inr k ↦ let m = k.1 in omega arith ])) (take i xs) now.before)
              (inl (let s = laid_here.1 in omega arith), tt));
          lowest = λ a b gap enough. elim (C.Each-at (λ y. IsTrue (is_pinned y) → C.Misses y.at y.size a b) xs (C.Each-from_All _ xs gap.clear.misses) x member pinned) [
            | inl k ↦ k
            | inr k ↦ absurd (no_room i r now x.at far (omega arith) ahead less a b gap (now.lowest a b gap enough) k enough)
          ];
        }

    walked_loose : is_pinned x ≡ false → IsWalked (i + 1) (record { low = r.low; loose = r.loose + x.size })
    walked_loose loose =
        let far = laid_here.0 in let fit = now.fits in
        let e = not_pinned x.hold loose in
        record {
          mid = block_end x;
          laid = laid_here.2;
          fits = omega arith;
          from = now.from;
          grained = now.grained;
          floor = now.floor;
          before = subst (AllByRecursion (IsBehind r.low (block_end x))) (sym taken) (each_append _ (take i xs) (x ∷ [])
              (Each-map (IsBehind r.low now.mid) _ (λ b f. (f.0, elim f.1 [ inl k ↦ inl k | inr k ↦ let m = k.1 in inr (k.0, omega arith, k.2) ])) (take i xs) now.before)
              ((laid_here.1, inr (omega arith, omega arith, e)), tt));
          sizes = λ b le.
              let s = laid_here.1 in
              let one = loose_append (take i xs) (x ∷ []) r.low b in
              let two = loose_here x [] r.low b e (omega arith) (omega arith) in
              let none : loose_bytes [] r.low b ≡ 0 = refl in
              let old = now.sizes b (omega arith) in
              ap (λ ys. loose_bytes ys r.low b) taken ∙ omega (arith, one, two, none, old);
          lowest = now.lowest;
        }

    -- behind a block that ends no gap with room
    pub walked_next : (IsTrue (is_pinned x) → x.at < r.low + r.loose + n) → (r' : Reached) → r' ≡ passed r x → IsWalked (i + 1) r'
    walked_next less r' e = elim (C.cases_Bool (is_pinned x)) [
      | inl t ↦ subst (IsWalked (i + 1)) (sym (e ∙ C.cond-true (is_pinned x) _ _ t)) (walked_pinned t (less t))
      | inr t ↦ subst (IsWalked (i + 1)) (sym (e ∙ C.cond-false (is_pinned x) _ _ t)) (walked_loose t)
    ]

  -- at the start
  pub walk_start : (low : ℕ) → low ≡ l.lo → IsWalked 0 (record { low = low; loose = 0 })
  walk_start low first = subst (λ (k : ℕ). IsWalked 0 (record { low = k; loose = 0 })) (sym first) (record {
    mid = l.lo;
    laid = ordered.laid;
    fits = omega arith;
    from = omega arith;
    grained = ordered.from;
    floor = inl refl;
    before = tt;
    sizes = λ b le. refl;
    lowest = λ a b gap enough. gap.clear.above;
  })

  -- at the end
  module _ (i : ℕ) (r : Reached) (now : IsWalked i r) (none : drop i xs ≡ []) where
    high : now.mid ≤ l.hi
    high = subst (IsLaid now.mid l.hi) none now.laid

    ahead_none : AllByRecursion (λ x. l.hi ≤ x.at) (drop i xs)
    ahead_none = subst (AllByRecursion (λ x. l.hi ≤ x.at)) (sym none) tt

    pub gap_last : 0 < n → r.low + r.loose + n ≤ l.hi → HasRoom l n (record { low = r.low; high = l.hi; loose = r.loose })
    gap_last some enough = room_here i r now l.hi high (omega arith) ahead_none some enough (inl refl)

    pub none_found : 0 < n → l.hi < r.low + r.loose + n → room l.lo l.hi xs < n
    none_found some less = elim (C.cases_lt (room l.lo l.hi xs) n) [
      | inl lt ↦ lt
      | inr ge ↦
          let best = C.some_gap l.lo l.hi xs (C.laid_placed l.lo l.hi xs ordered.laid) (omega arith) in
          let is = best.3 in
          let enough : best.0 + loose_bytes xs best.0 best.1 + n ≤ best.1 = omega arith in
          absurd (no_room i r now l.hi high (omega arith) ahead_none less best.0 best.1 best.2 (now.lowest best.0 best.1 best.2 enough) best.2.clear.below enough)
    ]

  -- what is found is no more than the room
  pub enough_room : (g : Gap) → HasRoom l n g → n ≤ room l.lo l.hi xs
  enough_room g found =
      let most = C.each_gap l.lo l.hi xs (C.laid_placed l.lo l.hi xs ordered.laid) g.low g.high found.gap in
      let one = found.loose in let two = found.room in
      omega arith
