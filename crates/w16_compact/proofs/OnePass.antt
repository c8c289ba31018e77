-- Room by one pass over the blocks by address.
use Rattle.w16_compact.proofs
use proofs.Common as C
use proofs.Common.{◌≡◌, ℕ, ◌+◌, ◌-◌, ◌<◌, ◌≤◌, max, min, Bool, true, false, cond, not, ◌&&◌, nat_le, List, [], ◌∷◌, map, filter, sum_by, refl, ap, ◌∙◌, arith, None, and_right, Block, laid_le, is_pinned, is_loose, block_end, begins_in, first_from, loose_bytes, largest, room_from, room}
use proofs.Common.{IsLaid}
use Rattle.std.proofs.Common.{lt-ltb}
use Rattle.std.specs.List.{AllByRecursion as Each}

-- the best gap so far, where the present gap begins, and the loose bytes in it
abbrev pub scan : ℕ → ℕ → ℕ → ℕ → List Block → ℕ
scan hi best start used [] = max best (hi - start - used)
scan hi best start used (x ∷ xs) = cond (is_pinned x) (scan hi (max best (x.at - start - used)) (block_end x) 0 xs) (scan hi best start (used + x.size) xs)

abbrev pub ends : List Block → List ℕ
ends xs = map block_end (filter is_pinned xs)

first_after : (lo hi : ℕ) (xs : List Block) (a m : ℕ) → IsLaid lo hi xs → m ≤ lo → m ≤ first_from is_pinned hi xs a
first_after lo hi [] a m h k = omega arith
first_after lo hi (x ∷ xs) a m h k =
    let rest = first_after (x.at + x.size) hi xs a m h.2 (omega (arith, h)) in
    elim (is_pinned x && nat_le a x.at) as (λ b. m ≤ cond b (min x.at (first_from is_pinned hi xs a)) (first_from is_pinned hi xs a)) [ true ↦ omega (arith, h.0, rest, k) | false ↦ rest ]

-- no block of it begins below its low end
none_below : (lo hi : ℕ) (xs : List Block) (a b : ℕ) → IsLaid lo hi xs → b ≤ lo → loose_bytes xs a b ≡ 0
none_below lo hi [] a b h k = refl
none_below lo hi (x ∷ xs) a b h k =
    let out = and_right (is_loose x) (begins_in a b x) (and_right (nat_le a x.at) (C.nat_lt x.at b) (C.le-ltb x.at b (omega (arith, h.0)))) in
    ap (λ v. sum_by (λ y. y.size) (cond {A = List Block} v (x ∷ filter (λ y. is_loose y && begins_in a b y) xs) (filter (λ y. is_loose y && begins_in a b y) xs))) out
    ∙ none_below (x.at + x.size) hi xs a b h.2 (omega (arith, h))

ends_after : (lo hi : ℕ) (xs : List Block) → IsLaid lo hi xs → Each (λ s. lo ≤ s) (ends xs)
ends_after lo hi xs h = C.Each-of_map (λ s. lo ≤ s) _ _ (C.Each-filter (λ x. lo ≤ block_end x) _ xs (all lo hi xs h))
  where
    all : (lo hi : ℕ) (xs : List Block) → IsLaid lo hi xs → Each (λ x. C.IsTrue (is_pinned x) → lo ≤ block_end x) xs
    all lo hi [] h = tt
    all lo hi (x ∷ xs) h = ((λ _. omega (arith, h.0)), C.Each-map _ _ (λ y f t. omega (arith, f t, h.0)) xs (all (x.at + x.size) hi xs h.2))

pub largest_same : (f g : ℕ → ℕ) (ns : List ℕ) → Each (λ n. f n ≡ g n) ns → largest (map f ns) ≡ largest (map g ns)
largest_same f g [] h = refl
largest_same f g (n ∷ ns) h = λ i. max (h.0 i) (largest_same f g ns h.1 i)

-- what the first block changes
module _ (hi : ℕ) (x : Block) (xs : List Block) (laid : IsLaid (x.at + x.size) hi xs) (some : 0 < x.size) where
  first_head : (t : Bool) (s : ℕ) → is_pinned x ≡ t → first_from is_pinned hi (x ∷ xs) s ≡ cond (t && nat_le s x.at) (min x.at (first_from is_pinned hi xs s)) (first_from is_pinned hi xs s)
  first_head t s e = ap (λ (b : Bool). cond (b && nat_le s x.at) (min x.at (first_from is_pinned hi xs s)) (first_from is_pinned hi xs s)) e

  loose_head : (a b : ℕ) (t : Bool) → (is_loose x && begins_in a b x) ≡ t → loose_bytes (x ∷ xs) a b ≡ cond t x.size 0 + loose_bytes xs a b
  loose_head a b t e = C.sum_filter (λ y. is_loose y && begins_in a b y) x xs ∙ ap (λ (v : Bool). cond v x.size 0 + loose_bytes xs a b) e

  not_loose : is_pinned x ≡ true → is_loose x ≡ false
  not_loose e = ap not e

  pinned_here : (lo : ℕ) → is_pinned x ≡ true → lo ≤ x.at → room_from hi (x ∷ xs) lo ≡ x.at - lo
  pinned_here lo t h =
      let far : x.at ≤ first_from is_pinned hi xs lo = first_after (x.at + x.size) hi xs lo x.at laid (omega arith) in
      let first : first_from is_pinned hi (x ∷ xs) lo ≡ x.at = first_head true lo t ∙ C.cond-true (nat_le lo x.at) _ _ (C.le-leb lo x.at h) ∙ smaller x.at _ far in
      let none : loose_bytes (x ∷ xs) lo x.at ≡ 0 = loose_head lo x.at false (C.and_left _ _ (not_loose t)) ∙ C.zero-add _ ∙ none_below (x.at + x.size) hi xs lo x.at laid (omega arith) in
      (λ i. first i - lo - loose_bytes (x ∷ xs) lo (first i)) ∙ (λ i. x.at - lo - none i) ∙ less_none (x.at - lo)
    where
      less_none : (a : ℕ) → a - 0 ≡ a
      less_none a = omega arith

      smaller : (a b : ℕ) → a ≤ b → min a b ≡ a
      smaller a b h = omega arith

  later : (s : ℕ) → block_end x ≤ s → room_from hi (x ∷ xs) s ≡ room_from hi xs s
  later s h =
      let past : nat_le s x.at ≡ false = C.lt-leb s x.at (omega arith) in
      let first : first_from is_pinned hi (x ∷ xs) s ≡ first_from is_pinned hi xs s = C.cond-false (is_pinned x && nat_le s x.at) _ _ (and_right (is_pinned x) (nat_le s x.at) past) in
      let out : (b : ℕ) → loose_bytes (x ∷ xs) s b ≡ loose_bytes xs s b = λ b. loose_head s b false (and_right (is_loose x) (begins_in s b x) (C.and_left (nat_le s x.at) (C.nat_lt x.at b) past)) ∙ C.zero-add _ in
      (λ i. first i - s - out (first i) i)

  loose_here : (lo : ℕ) → is_pinned x ≡ false → lo ≤ x.at → room_from hi (x ∷ xs) lo ≡ room_from hi xs lo - x.size
  loose_here lo t h =
      let e : ℕ = first_from is_pinned hi xs lo in
      let first : first_from is_pinned hi (x ∷ xs) lo ≡ e = first_head false lo t in
      let far : x.at + 1 ≤ e = first_after (x.at + x.size) hi xs lo (x.at + 1) laid (omega arith) in
      let is : is_loose x ≡ true = ap not t in
      let more : loose_bytes (x ∷ xs) lo e ≡ x.size + loose_bytes xs lo e = loose_head lo e true (C.and_from _ _ is (C.and_from _ _ (C.le-leb lo x.at h) (lt-ltb x.at e (omega (arith, far))))) in
      (λ i. first i - lo - loose_bytes (x ∷ xs) lo (first i)) ∙ (λ i. e - lo - more i) ∙ regroup (e - lo) x.size (loose_bytes xs lo e)
    where
      regroup : (a b c : ℕ) → a - (b + c) ≡ a - c - b
      regroup a b c = omega arith

-- the room of laid blocks, where some bytes of the first gap are used
abbrev pub room_beside : ℕ → ℕ → ℕ → List Block → ℕ
room_beside hi used lo xs = max (room_from hi xs lo - used) (largest (map (room_from hi xs) (ends xs)))

lower : (lo m hi : ℕ) (xs : List Block) → lo ≤ m → IsLaid m hi xs → IsLaid lo hi xs
lower lo m hi [] l h = omega arith
lower lo m hi (x ∷ xs) l h = (omega (arith, h.0), h.1, h.2)

more_ends : (f : ℕ → ℕ) (x : Block) (xs : List Block) (t : Bool) → is_pinned x ≡ t → largest (map f (ends (x ∷ xs))) ≡ cond t (max (f (block_end x)) (largest (map f (ends xs)))) (largest (map f (ends xs)))
more_ends f x xs true e = ap (λ b. largest (map f (map block_end (cond {A = List Block} b (x ∷ filter is_pinned xs) (filter is_pinned xs))))) e
more_ends f x xs false e = ap (λ b. largest (map f (map block_end (cond {A = List Block} b (x ∷ filter is_pinned xs) (filter is_pinned xs))))) e

pub scan_is : (hi best lo used : ℕ) (xs : List Block) → IsLaid lo hi xs → scan hi best lo used xs ≡ max best (room_beside hi used lo xs)
scan_is hi best lo used [] h = omega arith
scan_is hi best lo used (x ∷ xs) h =
    let f = room_from hi (x ∷ xs) in
    let same_ends : largest (map f (ends xs)) ≡ largest (map (room_from hi xs) (ends xs)) =
    largest_same f _ _ (C.Each-map _ _ (λ s l. later hi x xs h.2 h.1 s l) _ (ends_after _ hi xs h.2)) in
    let next : ℕ → ℕ → ℕ → ℕ = λ best start used. scan hi best start used xs in
    elim (is_pinned x) as (λ t. is_pinned x ≡ t → cond t (next (max best (x.at - lo - used)) (block_end x) 0) (next best lo (used + x.size)) ≡ max best (max (f lo - used) (largest (map f (ends (x ∷ xs)))))) [
      | true ↦ λ e.
          let rest : next (max best (x.at - lo - used)) (block_end x) 0 ≡ max (max best (x.at - lo - used)) (max (room_from hi xs (block_end x) - 0) (largest (map (room_from hi xs) (ends xs)))) =
          scan_is hi (max best _) (block_end x) 0 xs h.2 in
          rest ∙ joined best _ used _ _ _ _ _ _ (pinned_here hi x xs h.2 h.1 lo e h.0) (later hi x xs h.2 h.1 _ (omega arith)) same_ends (more_ends f x xs true e)
      | false ↦ λ e.
          let rest : next best lo (used + x.size) ≡ max best (max (room_from hi xs lo - (used + x.size)) (largest (map (room_from hi xs) (ends xs)))) =
          scan_is hi best lo _ xs (lower lo _ hi xs (omega (arith, h.0)) h.2) in
          rest ∙ passed best used x.size _ _ _ _ _ (loose_here hi x xs h.2 h.1 lo e h.0) same_ends (more_ends f x xs false e)
    ] refl
  where
    joined : (best here used lo_room last_room last_room2 ends_room ends_room2 all_room : ℕ) → lo_room ≡ here → last_room ≡ last_room2 → ends_room ≡ ends_room2 → all_room ≡ max last_room ends_room
        → max (max best (here - used)) (max (last_room2 - 0) ends_room2) ≡ max best (max (lo_room - used) all_room)
    joined best here used a b c d e f p q r s = omega arith

    passed : (best used size lo_room lo_room2 ends_room ends_room2 all_room : ℕ) → lo_room ≡ lo_room2 - size → ends_room ≡ ends_room2 → all_room ≡ ends_room
        → max best (max (lo_room2 - (used + size)) ends_room2) ≡ max best (max (lo_room - used) all_room)
    passed best used size a b c d e p q r = omega arith

pub scan-room : (lo hi : ℕ) (xs : List Block) → IsLaid lo hi xs → scan hi 0 lo 0 xs ≡ room lo hi xs
scan-room lo hi xs h = scan_is hi 0 lo 0 xs h ∙ omega arith

pub ord_max-max : (a b : ℕ) → C.ord_max C.nat_cmp a b ≡ max a b
ord_max-max a b = grind (arith, C.nat_tests)

-- no gap has more than the free bytes of all together
scan_fits : (hi best start used lo : ℕ) (xs : List Block) → IsLaid lo hi xs → start + used ≤ lo → scan hi best start used xs ≤ max best (hi - start - used - sum_by (λ x. x.size) xs)
scan_fits hi best start used lo [] laid le = omega arith
scan_fits hi best start used lo (x ∷ xs) laid le =
    let sum = C.sum_by-cons (λ y. y.size) x xs in let fit = C.sum_fits (block_end x) hi xs laid.2 in let from = laid.0 in
    elim (is_pinned x) as (λ t. cond t (scan hi (max best (x.at - start - used)) (block_end x) 0 xs) (scan hi best start (used + x.size) xs) ≤ max best (hi - start - used - sum_by (λ y. y.size) (x ∷ xs))) [
      | true ↦ let rest = scan_fits hi (max best (x.at - start - used)) (block_end x) 0 (block_end x) xs laid.2 (omega arith) in omega arith
      | false ↦ let rest = scan_fits hi best start (used + x.size) (block_end x) xs laid.2 (omega arith) in omega arith
    ]

pub room_fits : (lo hi : ℕ) (xs : List Block) → IsLaid lo hi xs → room lo hi xs ≤ hi - lo - sum_by (λ x. x.size) xs
room_fits lo hi xs laid = let one = scan-room lo hi xs laid in let two = scan_fits hi 0 lo 0 lo xs laid (omega arith) in omega arith

-- the room with none left out
pub none_out_all : (xs : List Block) → C.blocks_without xs [] None ≡ xs
none_out_all [] = refl
none_out_all (x ∷ xs) = ap (λ ys. x ∷ ys) (none_out_all xs)

pub room_whole : (lo hi : ℕ) (xs : List Block) (order : List ℕ) → C.room_for (C.snapshot lo hi xs order) 0 None ≡ room lo hi xs
room_whole lo hi xs order = ap (room lo hi) (none_out_all xs)

-- so where the free bytes are fewer than n, so is the room
pub too_few : (lo hi n free : ℕ) (xs : List Block) → IsLaid lo hi xs → free ≡ hi - lo - sum_by (λ x. x.size) xs → free < n → room lo hi xs < n
too_few lo hi n free xs laid is few = let fit = room_fits lo hi xs laid in omega arith
