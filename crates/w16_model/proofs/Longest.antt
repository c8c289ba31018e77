-- Room is the length of the longest free stretch of any arrangement.
use Rattle.w16_model.proofs
use proofs.Common as C
use proofs.Gaps as M
use Rattle.std.specs.List.{AllByRecursion as Each}
use proofs.Common.{◌≡◌, ℕ, ◌+◌, ◌-◌, ◌<◌, ◌≤◌, ◌⊎◌, inl, inr, max, min, Bool, true, false, cond, not, ◌&&◌, nat_le, nat_lt, IsTrue, List, [], ◌∷◌, filter, sum_by, refl, sym, ap, subst, arith, cases_lt, and_parts, false≢true, Block, Misses, block_end, is_pinned, is_loose, begins_in}
use proofs.Common.{loose_bytes, room_from, room, first_from, ArePlaced, IsGap, IsFreeStretch}
use proofs.Gaps.{Each-filter, Member, Each-from, EachPair-from_AllPairs, last_to, pack}
use proofs.Starts.{inside, sized, two, MayBegin, begins, gap_begins}
use proofs.Maximal.{clear_from, missed, gap_around, gap_same}

module _ (lo hi : ℕ) (xs : List Block) (placed : ArePlaced lo hi xs) where
  -- no arrangement has a longer free stretch
  pub none_longer : (place : Block → ℕ) (a b : ℕ) → C.IsArrangement lo hi xs place → IsFreeStretch lo hi xs place a b → b - a ≤ room lo hi xs
  none_longer place a b arranged free = elim (cases_lt a b) [
    | inr h ↦ omega arith
    | inl l ↦
        let s : ℕ = last_to is_pinned lo xs a in
        let e : ℕ = first_from is_pinned hi xs s in
        let gap : IsGap lo hi xs s e × (s ≤ a) × (b ≤ e) = gap_around is_pinned lo hi xs (sized lo hi xs placed) a b l free.clear in
        let in_gap : Block → Bool = λ x. is_loose x && begins_in s e x in
        let loose_of : (x : Block) → IsTrue (in_gap x) → IsTrue (is_loose x) = λ x t. (and_parts (is_loose x) (begins_in s e x) t).0 in
        let pairs : M.EachPair (λ x y. IsTrue (is_loose x) → IsTrue (is_loose y) → Misses (place x) x.size (place y) (place y + y.size)) xs = EachPair-from_AllPairs _ xs arranged.apart in
        let free_each : Each (λ x. IsTrue (is_loose x) → Misses (place x) x.size a b) xs = M.Each-from_All _ xs free.misses in
        let kept : Each (λ x. IsTrue (in_gap x) → (s ≤ place x) × (place x + x.size ≤ e)) xs = M.Each-from_All _ xs (arranged.kept s e gap.0) in
        let fits : s + sum_by (λ x. x.size) (filter in_gap xs) + (b - a) ≤ e = M.pack_around (λ x. x.size) (filter in_gap xs) place s e a b gap.1 (omega arith) gap.2
        (Each-filter _ in_gap xs kept)
        (M.EachPair-filter _ in_gap xs (M.EachPair-map _ _ (λ x y f t u. f (loose_of x t) (loose_of y u)) xs pairs))
        (Each-filter _ in_gap xs (M.Each-map _ _ (λ x f t. f (loose_of x t)) xs free_each)) in
        let reached : e - s - sum_by (λ x. x.size) (filter in_gap xs) ≤ room lo hi xs = M.last_to-start is_pinned (room_from hi xs) lo xs a in
        omega (arith, fits, reached)
  ]

-- The sums of the loose blocks' (sized lo hi xs placed) over parts of the heap.

begins_split : (a m b p n : ℕ) (t : Bool) → a ≤ m → m ≤ b → cond (t && (nat_le a p && nat_lt p b)) n 0 ≡ cond (t && (nat_le a p && nat_lt p m)) n 0 + cond (t && (nat_le m p && nat_lt p b)) n 0
begins_split a m b p n t h k = grind (arith, C.nat_tests)

pub sum_filter : (p : Block → Bool) (x : Block) (xs : List Block) → sum_by (λ x. x.size) (filter p (x ∷ xs)) ≡ cond (p x) x.size 0 + sum_by (λ x. x.size) (filter p xs)
sum_filter p x xs = turn (p x)
  where
    turn : (b : Bool) → sum_by (λ x. x.size) (cond {A = List Block} b (x ∷ filter p xs) (filter p xs)) ≡ cond b x.size 0 + sum_by (λ x. x.size) (filter p xs)
    turn true = C.sum_by-cons (λ x. x.size) x (filter p xs)
    turn false = omega arith

pub loose_bytes-split : (xs : List Block) (a m b : ℕ) → a ≤ m → m ≤ b → loose_bytes xs a b ≡ loose_bytes xs a m + loose_bytes xs m b
loose_bytes-split [] a m b h k = refl
loose_bytes-split (x ∷ xs) a m b h k =
    omega (arith, sum_filter (λ y. is_loose y && begins_in a b y) x xs, sum_filter (λ y. is_loose y && begins_in a m y) x xs, sum_filter (λ y. is_loose y && begins_in m b y) x xs, begins_split a m b x.at x.size (is_loose x) h k, loose_bytes-split xs a m b h k)

-- one of them is in the sum
pub size-le-sum : (p : Block → Bool) (xs : List Block) (x : Block) → Member x xs → IsTrue (p x) → x.size ≤ sum_by (λ x. x.size) (filter p xs)
size-le-sum p [] x m t = absurd m
size-le-sum p (y ∷ ys) x (inl e) t =
    subst (λ z. IsTrue (p z) → z.size ≤ sum_by (λ x. x.size) (filter p (y ∷ ys))) (sym e) (λ u. omega (arith, sum_filter p y ys, C.cond-true (p y) y.size 0 u)) t
size-le-sum p (y ∷ ys) x (inr m) t = omega (arith, sum_filter p y ys, size-le-sum p ys x m t)

unpinned : (b : Bool) → b ≡ true → not b ≡ true → ⊥
unpinned true h k = false≢true k
unpinned false h k = false≢true h

range_of : (a b : ℕ) (y : Block) → IsTrue (is_loose y && begins_in a b y) → (a ≤ y.at) × (y.at < b)
range_of a b y t =
    let r = (and_parts _ _ t).1 in
    (C.leb-true a y.at (and_parts _ _ r).0, C.ltb-true y.at b (and_parts _ _ r).1)

module _ (lo hi : ℕ) (xs : List Block) (placed : ArePlaced lo hi xs) where
  -- every loose block slid down: its gap's begin, and the loose blocks of the gap below it
  abbrev pub slid : Block → ℕ
  slid x = last_to is_pinned lo xs x.at + loose_bytes xs (last_to is_pinned lo xs x.at) x.at

  clear_at : (x : Block) → Member x xs → IsTrue (is_loose x) → C.IsClear is_pinned lo hi xs x.at (block_end x)
  clear_at x m t = clear_from is_pinned lo hi xs (sized lo hi xs placed) x.at (block_end x) (inside lo hi xs placed x m).0 (inside lo hi xs placed x m).2
      (λ y n u. elim (two lo hi xs placed y x n m) [
        | inl e ↦ absurd (unpinned (is_pinned x) (subst (λ (z : Block). IsTrue (is_pinned z)) e u) t)
        | inr f ↦ f
      ])

  -- the gap of a loose block
  gap_of : (x : Block) → Member x xs → IsTrue (is_loose x) → IsGap lo hi xs (last_to is_pinned lo xs x.at) (first_from is_pinned hi xs (last_to is_pinned lo xs x.at))
      × (last_to is_pinned lo xs x.at ≤ x.at) × (block_end x ≤ first_from is_pinned hi xs (last_to is_pinned lo xs x.at))
  gap_of x m t = gap_around is_pinned lo hi xs (sized lo hi xs placed) x.at (block_end x) (let z : 0 < x.size = sized lo hi xs placed x m in omega arith) (clear_at x m t)

  -- the loose blocks below a block fit below it
  fit_below : (a : ℕ) (x : Block) → Member x xs → a ≤ x.at → a + loose_bytes xs a x.at ≤ x.at
  fit_below a x m h =
      let below : Block → Bool = λ y. is_loose y && begins_in a x.at y in
      pack (λ y. y.size) (filter below xs) (λ y. y.at) a x.at h
      (Each-filter _ below xs (Each-from _ xs (λ y n t. elim (two lo hi xs placed y x n m) [
        | inl e ↦ absurd (let p : y.at ≡ x.at = ap (λ (z : Block). z.at) e in omega (arith, (range_of a x.at y t).1))
        | inr f ↦ let q : 0 < x.size = sized lo hi xs placed x m in ((range_of a x.at y t).0, omega (arith, (range_of a x.at y t).1, f))
      ])))
      (M.EachPair-filter _ below xs (M.EachPair-map _ (λ y z. IsTrue (below y) → IsTrue (below z) → Misses y.at y.size z.at (z.at + z.size)) (λ y z f t u. f) xs (EachPair-from_AllPairs (λ y z. Misses y.at y.size z.at (block_end z)) xs placed.apart)))

  -- one that is slid down ends at or below where it ended, and where those of its gap up to any later place end
  slid_low : (x : Block) → Member x xs → IsTrue (is_loose x) → slid x + x.size ≤ block_end x
  slid_low x m t = let h : slid x ≤ x.at = fit_below (last_to is_pinned lo xs x.at) x m (gap_of x m t).1 in omega (arith, h)

  slid_within : (a c : ℕ) (x : Block) → Member x xs → IsTrue (is_loose x) → a ≤ x.at → x.at < c → a + loose_bytes xs a x.at + x.size ≤ a + loose_bytes xs a c
  slid_within a c x m t h k =
      let split : loose_bytes xs a c ≡ loose_bytes xs a x.at + loose_bytes xs x.at c = loose_bytes-split xs a x.at c h (omega arith) in
      let one : x.size ≤ loose_bytes xs x.at c = size-le-sum (λ y. is_loose y && begins_in x.at c y) xs x m
      (C.and_from _ _ t (C.and_from _ _ (C.le-leb x.at x.at (omega arith)) (C.lt-ltb x.at c k))) in
      omega (arith, split, one)

  -- a block whose gap another gap does not share ends before it or begins after it
  apart_from : (c d : ℕ) → IsGap lo hi xs c d → (x : Block) (m : Member x xs) (t : IsTrue (is_loose x))
      → ((c ≡ last_to is_pinned lo xs x.at) × (d ≡ first_from is_pinned hi xs (last_to is_pinned lo xs x.at)) × (c ≤ x.at) × (x.at < d)) ⊎ ((block_end x ≤ c) ⊎ (d ≤ last_to is_pinned lo xs x.at))
  apart_from c d gap x m t = cases (last_to is_pinned lo xs x.at) (first_from is_pinned hi xs (last_to is_pinned lo xs x.at)) (gap_of x m t)
    where
      cases : (s e : ℕ) → IsGap lo hi xs s e × (s ≤ x.at) × (block_end x ≤ e) → ((c ≡ s) × (d ≡ e) × (c ≤ x.at) × (x.at < d)) ⊎ ((block_end x ≤ c) ⊎ (d ≤ s))
      cases s e own =
          let z : 0 < x.size = sized lo hi xs placed x m in
          elim (cases_lt (max c s) (min d e)) [
            | inl l ↦
                let one : (c ≡ s) × (d ≡ e) = gap_same is_pinned lo hi xs (sized lo hi xs placed) c d s e (max c s) gap own.0 (omega arith) (omega arith) (omega arith) (omega arith) in
                inl (one.0, one.1, omega arith, omega arith)
            | inr l ↦ inr (elim (cases_lt s d) [ inr k ↦ inr k | inl k ↦ inl (let some : c < d = gap.some in omega arith) ])
          ]

  -- of two loose blocks the lower one still ends before the other
  slid_apart : (x y : Block) → Member x xs → Member y xs → IsTrue (is_loose x) → IsTrue (is_loose y) → block_end x ≤ y.at → slid x + x.size ≤ slid y
  slid_apart x y m n t u h =
      let a : ℕ = last_to is_pinned lo xs y.at in
      let own : IsGap lo hi xs a (first_from is_pinned hi xs a) × (a ≤ y.at) × (block_end y ≤ first_from is_pinned hi xs a) = gap_of y n u in
      let low : slid x + x.size ≤ block_end x = slid_low x m t in
      let z : 0 < x.size = sized lo hi xs placed x m in
      elim (apart_from a (first_from is_pinned hi xs a) own.0 x m t) [
        | inl one ↦ subst (λ v. v + loose_bytes xs v x.at + x.size ≤ slid y) one.0 (slid_within a y.at x m t one.2 (omega arith))
        | inr (inl k) ↦ omega (arith, low, k)
        | inr (inr k) ↦ let l : last_to is_pinned lo xs x.at ≤ x.at = (gap_of x m t).1 in absurd (omega (arith, own.1, own.2, k, l))
      ]

  kept_in : (a b : ℕ) → IsGap lo hi xs a b → (x : Block) → Member x xs → IsTrue (is_loose x && begins_in a b x) → (a ≤ slid x) × (slid x + x.size ≤ b)
  kept_in a b gap x m t =
      let loose : IsTrue (is_loose x) = (and_parts (is_loose x) (begins_in a b x) t).0 in
      let range : (a ≤ x.at) × (x.at < b) = range_of a b x t in
      let own : IsGap lo hi xs (last_to is_pinned lo xs x.at) (first_from is_pinned hi xs (last_to is_pinned lo xs x.at)) × (last_to is_pinned lo xs x.at ≤ x.at) × (block_end x ≤ first_from is_pinned hi xs (last_to is_pinned lo xs x.at)) = gap_of x m loose in
      let low : slid x + x.size ≤ block_end x = slid_low x m loose in
      let z : 0 < x.size = sized lo hi xs placed x m in
      elim (apart_from a b gap x m loose) [
        | inl one ↦ (omega (arith, one.0), omega (arith, one.1, low, own.2))
        | inr (inl k) ↦ absurd (omega (arith, k, range.0))
        | inr (inr k) ↦ absurd (omega (arith, k, range.1, own.1))
      ]

  pub slid_arranged : C.IsArrangement lo hi xs slid
  slid_arranged = record {
    kept = λ a b gap. M.All-from_Each (λ x. IsTrue (is_loose x && begins_in a b x) → (a ≤ slid x) × (slid x + x.size ≤ b)) xs (Each-from (λ x. IsTrue (is_loose x && begins_in a b x) → (a ≤ slid x) × (slid x + x.size ≤ b)) xs (kept_in a b gap));
    apart = M.AllPairs-from_EachPair (λ x y. IsTrue (is_loose x) → IsTrue (is_loose y) → Misses (slid x) x.size (slid y) (slid y + y.size)) xs
        (M.EachPair-member (λ x y. Misses x.at x.size y.at (block_end y)) (λ x y. IsTrue (is_loose x) → IsTrue (is_loose y) → Misses (slid x) x.size (slid y) (slid y + y.size)) xs
        (λ x y m n f t u. elim f [ inl h ↦ inl (slid_apart x y m n t u h) | inr h ↦ inr (slid_apart y x n m u t h) ])
        (EachPair-from_AllPairs _ xs placed.apart));
  }

  -- the best gap, with its loose blocks slid down
  pub one_as_long : 0 < room lo hi xs → (a : ℕ) × (b : ℕ) × IsFreeStretch lo hi xs slid a b × (b - a ≡ room lo hi xs)
  one_as_long some =
      let best : (n : ℕ) × MayBegin lo hi xs placed is_pinned n × (room_from hi xs n ≡ room lo hi xs) = M.largest_reached (room_from hi xs) (MayBegin lo hi xs placed is_pinned) (C.starts is_pinned lo xs) (begins lo hi xs placed is_pinned) some in
      at_best best.0 best.1 best.2
    where
      at_best : (n : ℕ) → MayBegin lo hi xs placed is_pinned n → room_from hi xs n ≡ room lo hi xs → (a : ℕ) × (b : ℕ) × IsFreeStretch lo hi xs slid a b × (b - a ≡ room lo hi xs)
      at_best n may is =
          let e : ℕ = first_from is_pinned hi xs n in
          let to_e : (e ≤ hi) × Each (λ x. IsTrue (is_pinned x) → n ≤ x.at → e ≤ x.at) xs = M.first_from-below is_pinned hi xs n e (omega arith) in
          let long : e - n - loose_bytes xs n e ≡ room lo hi xs = is in
          let gap : IsGap lo hi xs n e = gap_begins lo hi xs placed is_pinned n may (omega (arith, long, some)) in
          let u : ℕ = n + loose_bytes xs n e in (
            u,
            e,
            record {
              clear = clear_from is_pinned lo hi xs (sized lo hi xs placed) u e (omega (arith, may.0)) to_e.0 (λ x m t. elim (missed is_pinned lo hi xs (sized lo hi xs placed) n e gap.clear x m t) [ inl k ↦ inl (omega (arith, k)) | inr k ↦ inr k ]);
              misses = M.All-from_Each (λ x. IsTrue (is_loose x) → Misses (slid x) x.size u e) xs (Each-from (λ x. IsTrue (is_loose x) → Misses (slid x) x.size u e) xs (λ x m t.
                  let low : slid x + x.size ≤ block_end x = slid_low x m t in
                  elim (apart_from n e gap x m t) [
                    | inl one ↦ inl (subst (λ v. v + loose_bytes xs v x.at + x.size ≤ u) one.0 (slid_within n e x m t one.2 one.3))
                    | inr (inl k) ↦ inl (omega (arith, low, k))
                    | inr (inr k) ↦ inr (omega (arith, k))
                  ]));
            },
            omega (arith, long, some),
          )

pub room_is_longest : C.RoomLaw
room_is_longest lo hi xs placed = record {
  none_longer = none_longer lo hi xs placed;
  one_as_long = λ some. let best = one_as_long lo hi xs placed some in
      (slid lo hi xs placed, best.0, best.1, slid_arranged lo hi xs placed, best.2, best.3);
}

-- The computed room is the one over all maximal intervals.
module _ (lo hi : ℕ) (xs : List Block) (placed : ArePlaced lo hi xs) where
  pub each_gap : (a b : ℕ) → IsGap lo hi xs a b → b - a - loose_bytes xs a b ≤ room lo hi xs
  each_gap a b gap = by_gap (last_to is_pinned lo xs a) (gap_around is_pinned lo hi xs (sized lo hi xs placed) a b gap.some gap.clear) (M.last_to-start is_pinned (room_from hi xs) lo xs a)
    where
      by_gap : (s : ℕ) → IsGap lo hi xs s (first_from is_pinned hi xs s) × (s ≤ a) × (b ≤ first_from is_pinned hi xs s) → room_from hi xs s ≤ room lo hi xs → b - a - loose_bytes xs a b ≤ room lo hi xs
      by_gap s around reached =
          let same : (s ≡ a) × (first_from is_pinned hi xs s ≡ b) = gap.maximal s (first_from is_pinned hi xs s) around.1 around.2 around.0.clear in
          let e : ℕ = first_from is_pinned hi xs s in
          let here : e - s - loose_bytes xs s e ≤ room lo hi xs = reached in
          subst (λ v. b - v - loose_bytes xs v b ≤ room lo hi xs) same.0 (subst (λ v. v - s - loose_bytes xs s v ≤ room lo hi xs) same.1 here)

  pub some_gap : 0 < room lo hi xs → (a : ℕ) × (b : ℕ) × IsGap lo hi xs a b × (b - a - loose_bytes xs a b ≡ room lo hi xs)
  some_gap some =
      let best : (n : ℕ) × MayBegin lo hi xs placed is_pinned n × (room_from hi xs n ≡ room lo hi xs) = M.largest_reached (room_from hi xs) (MayBegin lo hi xs placed is_pinned) (C.starts is_pinned lo xs) (begins lo hi xs placed is_pinned) some in
      at_best best.0 best.1 best.2
    where
      at_best : (n : ℕ) → MayBegin lo hi xs placed is_pinned n → room_from hi xs n ≡ room lo hi xs → (a : ℕ) × (b : ℕ) × IsGap lo hi xs a b × (b - a - loose_bytes xs a b ≡ room lo hi xs)
      at_best n may is = (n, first_from is_pinned hi xs n, gap_begins lo hi xs placed is_pinned n may (let long : first_from is_pinned hi xs n - n - loose_bytes xs n (first_from is_pinned hi xs n) ≡ room lo hi xs = is in omega (arith, long, some)), is)
