-- The leaves of a tree are its list.
use Rattle.std.proofs.lemmas.List as M
use Rattle.std.proofs.Common.{ℕ, zero, suc, ◌≡◌, ◌≢◌, ◌<◌, ◌≤◌, ◌+◌, ◌-◌, ◌*◌, ◌/◌, ◌%◌, max, min, List, [], ◌∷◌, ◌++◌, length, take, drop, set, replicate, nat_le, Option, Some, None, arith, refl, sym, ap, ◌∙◌, subst, inl, inr, le-leb, lit<}
use Rattle.std.proofs.lemmas.Bool.{cases_lt, cases_eq, lt-leb, lt-ltb, le-ltb}
use Rattle.std.proofs.{lemmas.List.get_or-drop, lemmas.List.get_or-set_other, lemmas.List.Sums.position_or_len_is}
use Rattle.std.specs.{Prelude.slice_index, List.position, List.position_or_len, List.fold}
use Rattle.w16_tree.specs.Last.{last_below}
use Rattle.w16_tree.specs.Tree.{row, begin, number, list_of, IsMost, IsUpheld, IsTree, IsFirstLeaf, IsLastLeaf}
use Rattle.w16_tree.proofs.Tree.{below_nodes, reached, begin_rising, begin_end}

pub zero_read : (n k : ℕ) → slice_index (replicate n 0) k ≡ 0
zero_read n k = elim (cases_lt k n) [
  | inl lt ↦ M.get_or-replicate n k 0 0 lt
  | inr le ↦ M.get_or_past _ k 0 (let zs : List ℕ = replicate n 0 in let e : length zs ≡ n = M.length-replicate n 0 in omega arith)
]

-- zeros at the end read as what isn't there
pub padded : (xs : List ℕ) (n k : ℕ) → slice_index (xs ++ replicate n 0) k ≡ slice_index xs k
padded [] n k = zero_read n k
padded (x ∷ xs) n zero = refl
padded (x ∷ xs) n (suc k) = padded xs n k

pub read : (len leaves k : ℕ) (nodes : List ℕ) → k < len → slice_index (list_of len leaves nodes) k ≡ slice_index nodes (leaves + k)
read len leaves k nodes lt = M.get_or-take len _ k 0 lt ∙ padded _ len k ∙ get_or-drop leaves nodes k 0

pub list_zeros : (len leaves n : ℕ) → list_of len leaves (replicate n 0) ≡ replicate len 0
list_zeros len leaves n =
    ap (λ xs. take len (xs ++ replicate len 0)) (M.drop-replicate leaves n 0)
    ∙ ap (take len) (M.replicate-append-replicate _ len 0)
    ∙ M.take-replicate len (n - leaves + len) 0 (omega arith)

-- a place whose number is not 0 is in the list
pub some_inside : (nodes : List ℕ) (p : ℕ) → 0 < slice_index nodes p → p < length nodes
some_inside nodes p some = elim (cases_lt p _) [ inl lt ↦ lt | inr le ↦ let z = M.get_or_past nodes p 0 le in absurd (omega arith) ]

-- a row with a number that is not 0 is in the list, which is in whole rows
pub row_inside : (nodes : List ℕ) (at p : ℕ) → length nodes % 16 ≡ 0 → at % 16 ≡ 0 → at ≤ p → p < at + 16 → 0 < slice_index nodes p → at + 16 ≤ length nodes
row_inside nodes at p rows even from to some = let lt = some_inside nodes p some in omega arith

pub IsTree-zeros : (height len leaves n : ℕ) → begin height 0 ≡ leaves → len < 15 * leaves + 16 → n % 16 ≡ 0 → leaves + 16 ≤ n → IsTree height len leaves (replicate n 0)
IsTree-zeros height len leaves n wide room rows long = let zs : List ℕ = replicate n 0 in let e : length zs ≡ n = M.length-replicate n 0 in record {
  wide = wide;
  room = room;
  rows = omega arith;
  long = omega arith;
  rest = λ k le. zero_read n _;
  upheld = λ j lt. let z = zero_read n j in record {
    bound = λ p from to. let a = zero_read n p in omega arith;
    met = (row j, omega arith, omega arith, zero_read n (row j) ∙ sym z);
  };
}

pub IsMost-along : (f g : ℕ → ℕ) (at m : ℕ) → ((p : ℕ) → at ≤ p → p < at + 16 → f p ≡ g p) → IsMost f at m → IsMost g at m
IsMost-along f g at m same most = record {
  bound = λ p from to. let b = most.bound p from to in let e = same p from to in omega arith;
  met = (most.met.0, most.met.1, most.met.2, sym (same _ most.met.1 most.met.2) ∙ most.met.3);
}

module _ (height len leaves : ℕ) (nodes : List ℕ) (tree : IsTree height len leaves nodes) where
  pub list_length : length (list_of len leaves nodes) ≡ len
  list_length = let zs : List ℕ = replicate len 0 in let e : length zs ≡ len = M.length-replicate len 0 in let a = M.length-take len (drop leaves nodes ++ zs) in let b = M.length-append (drop leaves nodes) zs in omega arith

  -- a leaf above 0 is in the list
  pub in_list : (k : ℕ) → 0 < slice_index nodes (leaves + k) → k < len
  in_list k some = elim (cases_lt k len) [
    | inl lt ↦ lt
    | inr le ↦ let z = tree.rest k le in absurd (omega arith)
  ]

  first_at : (n k : ℕ) → k ≤ len → (k < len → n ≤ slice_index nodes (leaves + k)) → ((j : ℕ) → j < k → slice_index nodes (leaves + j) < n) → position_or_len (nat_le n) (list_of len leaves nodes) ≡ k
  first_at n k le reach before = let long = list_length in
      position_or_len_is (nat_le n) (list_of len leaves nodes) k 0 (omega arith)
      (λ j below. rw (read len leaves j nodes (omega arith)) (lt-leb n (slice_index nodes (leaves + j)) (before j below)))
      (λ lt. let less : k < len = omega arith in rw (read len leaves k nodes less) (le-leb n (slice_index nodes (leaves + k)) (reach less)))

  pub first_is : (n : ℕ) (r : Option ℕ) → 0 < n → IsFirstLeaf leaves (number nodes) n r → r ≡ position (nat_le n) (list_of len leaves nodes)
  first_is n (Some k) some is =
      let reach = is.0 in let lt = in_list k (omega arith) in let long = list_length in
      rw (first_at n k (omega arith) (λ _. reach) (λ j below. is.1 (leaves + j) (omega arith) (omega arith)), lt-ltb k (length (list_of len leaves nodes)) (omega arith)) refl
  first_is n None some is =
      let long = list_length in let room = tree.room in
      rw (first_at n (length (list_of len leaves nodes)) (omega arith) (λ lt. absurd (omega arith)) (λ j below. is (leaves + j) (omega arith) (omega arith)), le-ltb (length (list_of len leaves nodes)) (length (list_of len leaves nodes)) (omega arith)) refl

  last_some : (i k : ℕ) → i ≤ len → k < i → 0 < slice_index nodes (leaves + k) → ((p : ℕ) → leaves + k < p → p < leaves + i → slice_index nodes p ≡ 0) → Some k ≡ last_below (list_of len leaves nodes) i
  last_some zero k le lt some none = absurd (omega arith)
  last_some (suc i) k le lt some none = elim (cases_lt k i) [
    | inl below ↦
        let z : slice_index (list_of len leaves nodes) i ≡ 0 = read len leaves i nodes (omega arith) ∙ none (leaves + i) (omega arith) (omega arith) in
        rw z (last_some i k (omega arith) below some (λ p from to. none p from (omega arith)))
    | inr above ↦
        let e : i ≡ k = omega arith in
        let s : 0 < slice_index (list_of len leaves nodes) i = subst (λ (v : ℕ). 0 < v) (sym (read len leaves i nodes (omega arith))) (subst (λ (j : ℕ). 0 < slice_index nodes (leaves + j)) (sym e) some) in
        rw (lt-ltb 0 (slice_index (list_of len leaves nodes) i) s) (ap Some (sym e))
  ]

  last_none : (i : ℕ) → i ≤ len → ((p : ℕ) → leaves ≤ p → p < leaves + i → slice_index nodes p ≡ 0) → None ≡ last_below (list_of len leaves nodes) i
  last_none zero le none = refl
  last_none (suc i) le none =
      let z : slice_index (list_of len leaves nodes) i ≡ 0 = read len leaves i nodes (omega arith) ∙ none (leaves + i) (omega arith) (omega arith) in
      rw z (last_none i (omega arith) (λ p from to. none p from (omega arith)))

  pub last_is : (i : ℕ) (r : Option ℕ) → i ≤ len → IsLastLeaf leaves (number nodes) (leaves + i) r → r ≡ last_below (list_of len leaves nodes) i
  last_is i (Some k) le is = last_some i k le (let lt = is.0 in omega arith) is.1 is.2
  last_is i None le is = last_none i le is

  -- what is last before the end of the nodes is last before each later place
  pub last_there : (to : ℕ) (r : Option ℕ) → IsLastLeaf leaves (number nodes) (min (length nodes) to) r → IsLastLeaf leaves (number nodes) to r
  last_there to (Some k) is = let lt = is.0 in (omega arith, is.1, λ p from less. elim (cases_lt p (min (length nodes) to)) [ inl inside ↦ is.2 p from inside | inr past ↦ M.get_or_past nodes p 0 (omega arith) ])
  last_there to None is = λ p from less. elim (cases_lt p (min (length nodes) to)) [ inl inside ↦ is p from inside | inr past ↦ M.get_or_past nodes p 0 (omega arith) ]

  -- further zeros of the nodes are as those that aren't there
  IsTree-lengthened : (n : ℕ) → (length nodes + n) % 16 ≡ 0 → IsTree height len leaves (nodes ++ replicate n 0)
  IsTree-lengthened n rows = let long = tree.long in let zs : List ℕ = replicate n 0 in let e : length zs ≡ n = M.length-replicate n 0 in let a = M.length-append nodes zs in record {
    wide = tree.wide;
    room = tree.room;
    rows = omega arith;
    long = omega arith;
    rest = λ k le. padded nodes n (leaves + k) ∙ tree.rest k le;
    upheld = λ j lt. subst (λ (m : ℕ). IsMost (number (nodes ++ zs)) (row j) m) (sym (padded nodes n j)) (IsMost-along (number nodes) (number (nodes ++ zs)) (row j) (slice_index nodes j) (λ p from to. sym (padded nodes n p)) (tree.upheld j lt));
  }

  -- so they reach a leaf
  pub reaches : (i : ℕ) (new : List ℕ) → new ≡ nodes ++ replicate (i / 16 * 16 + 16 - length nodes) 0 → IsTree height len leaves new × (i < length new)
  reaches i new is =
      let n : ℕ = i / 16 * 16 + 16 - length nodes in let zs : List ℕ = replicate n 0 in let e : length zs ≡ n = M.length-replicate n 0 in let a = M.length-append nodes zs in let f = ap length is in let rows = tree.rows in
      (subst (λ (ns : List ℕ). IsTree height len leaves ns) (sym is) (IsTree-lengthened n (omega arith)), omega arith)

  -- a leaf changed, and the nodes above it: the list has the new number
  pub IsTree-set : (k y : ℕ) (new : List ℕ) → k < len → IsUpheld leaves (number new) → drop leaves new ≡ drop leaves (set nodes (leaves + k) y) → length new ≡ length nodes → IsTree height len leaves new
  IsTree-set k y new lt up same long = let rows = tree.rows in let inside = tree.long in record {
    wide = tree.wide;
    room = tree.room;
    rows = omega arith;
    long = omega arith;
    rest = λ j le.
        sym (get_or-drop leaves new j 0) ∙ ap (λ (xs : List ℕ). slice_index xs j) same ∙ get_or-drop leaves (set nodes (leaves + k) y) j 0
        ∙ get_or-set_other nodes (leaves + k) (leaves + j) y 0 (omega arith) ∙ tree.rest j le;
    upheld = up;
  }

-- to put back the number that was there leaves all as it was
put_back : (nodes : List ℕ) (i y : ℕ) → nodes ≡ set (set nodes i y) i (slice_index nodes i)
put_back nodes i y = sym (M.set-set nodes i y _ ∙ M.set-get_or nodes i 0)

-- where a leaf changed, the nodes are upheld with the number that was there
pub upheld_but : (leaves i y : ℕ) (nodes : List ℕ) → IsUpheld leaves (number nodes) → leaves ≤ i
    → (j : ℕ) → j < leaves → IsMost (number (set (set nodes i y) i (slice_index nodes i))) (row j) (slice_index (set nodes i y) j)
upheld_but leaves i y nodes up from j less =
    subst (λ (m : ℕ). IsMost (number (set (set nodes i y) i (slice_index nodes i))) (row j) m) (sym (get_or-set_other nodes i j y 0 (omega arith)))
    (subst (λ (ns : List ℕ). IsMost (number ns) (row j) (slice_index nodes j)) (put_back nodes i y) (up j less))

-- further zeros of the nodes don't change the list
pub list_lengthened : (len leaves n : ℕ) (nodes : List ℕ) → leaves ≤ length nodes → list_of len leaves (nodes ++ replicate n 0) ≡ list_of len leaves nodes
list_lengthened len leaves n nodes le =
    let d : List ℕ = drop leaves nodes in let ls : List ℕ = replicate len 0 in let ns : List ℕ = replicate n 0 in
    let e : length ls ≡ len = M.length-replicate len 0 in let a = M.length-append d ls in
    let turned : ns ++ ls ≡ ls ++ ns = M.replicate-append-replicate n len 0 ∙ ap (λ (k : ℕ). replicate k 0) (omega arith) ∙ sym (M.replicate-append-replicate len n 0) in
    ap (λ (xs : List ℕ). take len (xs ++ ls)) (M.drop-append-le leaves nodes ns le)
    ∙ ap (take len) (M.append_assoc d ns ls ∙ ap (λ (xs : List ℕ). d ++ xs) turned ∙ sym (M.append_assoc d ls ns))
    ∙ M.take-append-le len _ ns (omega arith)

take_set : (len k y : ℕ) (xs : List ℕ) → take len (set xs k y) ≡ set (take len xs) k y
take_set zero k y xs = refl
take_set (suc len) k y [] = refl
take_set (suc len) zero y (x ∷ xs) = refl
take_set (suc len) (suc k) y (x ∷ xs) = ap (λ ys. x ∷ ys) (take_set len k y xs)

set_append : (k y : ℕ) (xs ys : List ℕ) → k < length xs → set (xs ++ ys) k y ≡ set xs k y ++ ys
set_append k y [] ys lt = absurd (omega arith)
set_append zero y (x ∷ xs) ys lt = refl
set_append (suc k) y (x ∷ xs) ys lt = ap (λ zs. x ∷ zs) (set_append k y xs ys (omega arith))

pub list_set : (len leaves k y : ℕ) (nodes new : List ℕ) → leaves + k < length nodes → drop leaves new ≡ drop leaves (set nodes (leaves + k) y) → list_of len leaves new ≡ set (list_of len leaves nodes) k y
list_set len leaves k y nodes new lt same =
    let d = M.length-drop leaves nodes in
    ap (λ xs. take len (xs ++ replicate len 0)) (same ∙ M.drop-set-add leaves nodes k y)
    ∙ ap (take len) (sym (set_append k y (drop leaves nodes) (replicate len 0) (omega arith)))
    ∙ take_set len k y _

-- The maximum by a fold: a bound that is reached.
fold_most : (xs : List ℕ) (a m : ℕ) → a ≤ m → ((k : ℕ) → k < length xs → slice_index xs k ≤ m) → fold max a xs ≤ m
fold_most [] a m le all = le
fold_most (x ∷ xs) a m le all = let one : x ≤ m = all 0 (omega arith) in fold_most xs _ m (omega arith) (λ k lt. all (suc k) (omega arith))

fold_from : (xs : List ℕ) (a : ℕ) → a ≤ fold max a xs
fold_from [] a = omega arith
fold_from (x ∷ xs) a = let r : max a x ≤ fold max (max a x) xs = fold_from xs _ in omega arith

fold_each : (xs : List ℕ) (a k : ℕ) → k < length xs → slice_index xs k ≤ fold max a xs
fold_each [] a k lt = absurd (omega arith)
fold_each (x ∷ xs) a zero lt = let r : max a x ≤ fold max (max a x) xs = fold_from xs _ in omega arith
fold_each (x ∷ xs) a (suc k) lt = fold_each xs _ k (omega arith)

pub max_is : (height len leaves m : ℕ) (nodes : List ℕ) → IsTree height len leaves nodes → IsMost (number nodes) 0 m → m ≡ fold max 0 (list_of len leaves nodes)
max_is height len leaves m nodes tree top =
    let wide = tree.wide in let stop = begin_end height leaves wide in
    let some : 0 < 16 = lit< tt in
    let long = list_length height len leaves nodes tree in
    let most : fold max 0 (list_of len leaves nodes) ≤ m =
    fold_most (list_of len leaves nodes) 0 m (omega arith)
    (λ k lt.
    let r = below_nodes leaves (number nodes) tree.upheld height 0 16 (leaves + k) (omega arith) (omega arith) (omega arith) (let room = tree.room in omega arith) in
    let b = top.bound r.0 r.1 (let l = r.2 in omega arith) in let le = r.3 in
    let e = read len leaves k nodes (omega arith) in omega arith) in
    let q = top.met.0 in let to = top.met.2 in
    let low = begin_rising height 0 q (omega arith) in
    let high = begin_rising height (q + 1) 16 (omega arith) in
    let r = reached leaves (number nodes) tree.upheld height q (omega arith) in
    let from = r.1 in
    let k = r.0 - leaves in
    let e : leaves + k ≡ r.0 = omega arith in
    let same : slice_index nodes (leaves + k) ≡ m = ap (λ (p : ℕ). slice_index nodes p) e ∙ r.3 ∙ top.met.3 in
    elim (cases_lt k len) [
      | inl lt ↦ let f = read len leaves k nodes lt in let each = fold_each (list_of len leaves nodes) 0 k (omega arith) in omega arith
      | inr le ↦ let z = tree.rest k le in omega arith
    ]

-- one more number of a row
pub most_more : (f : ℕ → ℕ) (at k most new : ℕ) → k < 16 → new ≡ max most (f (at + k)) → ((p : ℕ) → at ≤ p → p < at + k → f p ≤ most) → (p : ℕ) × (at ≤ p) × (p < at + 16) × (f p ≡ most)
    → ((p : ℕ) → at ≤ p → p < at + (k + 1) → f p ≤ new) × ((p : ℕ) × (at ≤ p) × (p < at + 16) × (f p ≡ new))
most_more f at k most new lt is bound met = (
  λ p from to. elim (cases_lt p _) [ inl less ↦ let b = bound p from less in omega arith | inr le ↦ let e : p ≡ at + k = omega arith in rw e (omega arith) ],
  elim (cases_lt most (f (at + k))) [ inl less ↦ (at + k, omega arith, omega arith, omega arith) | inr le ↦ let e = met.3 in (met.0, met.1, met.2, omega arith) ],
)

-- the row of a place, below a node
pub row_of : (i : ℕ) → 16 ≤ i → row (i / 16 - 1) ≡ i / 16 * 16
row_of i from = omega arith

module _ (leaves i old : ℕ) (nodes : List ℕ) (up : (j : ℕ) → j < leaves → IsMost (number (set nodes i old)) (row j) (slice_index nodes j)) where
  pub before_is : 16 ≤ i → i < 16 * leaves + 16 → IsMost (number (set nodes i old)) (i / 16 * 16) (slice_index nodes (i / 16 - 1))
  before_is from below = subst (λ (at : ℕ). IsMost (number (set nodes i old)) at (slice_index nodes (i / 16 - 1))) (row_of i from) (up (i / 16 - 1) (omega arith))

  -- the rows without the place
  others : (j : ℕ) → j < leaves → (16 ≤ i → j ≢ i / 16 - 1) → IsMost (number nodes) (row j) (slice_index nodes j)
  others j less apart =
      IsMost-along (number (set nodes i old)) (number nodes) (row j) (slice_index nodes j)
      (λ p from to. get_or-set_other nodes i p old 0 (λ (e : p ≡ i). apart (omega arith) (omega arith))) (up j less)

  pub up_top : i < 16 → IsUpheld leaves (number nodes)
  up_top small j less = others j less (λ from. absurd (omega arith))

  module _ (from : 16 ≤ i) (now : ℕ) (most : IsMost (number nodes) (i / 16 * 16) now) where
    at_above : IsMost (number nodes) (row (i / 16 - 1)) now
    at_above = subst (λ (at : ℕ). IsMost (number nodes) at now) (sym (row_of i from)) most

    pub up_same : now ≡ slice_index nodes (i / 16 - 1) → IsUpheld leaves (number nodes)
    up_same same j less = elim (cases_eq j (i / 16 - 1)) [
      | inl here ↦ subst (λ (k : ℕ). IsMost (number nodes) (row k) (slice_index nodes k)) (sym here) (subst (λ (m : ℕ). IsMost (number nodes) (row (i / 16 - 1)) m) same at_above)
      | inr apart ↦ others j less (λ _. apart)
    ]

    pub up_next : i / 16 - 1 < length nodes → (j : ℕ) → j < leaves
        → IsMost (number (set (set nodes (i / 16 - 1) now) (i / 16 - 1) (slice_index nodes (i / 16 - 1)))) (row j) (slice_index (set nodes (i / 16 - 1) now) j)
    up_next inside j less = subst (λ (ns : List ℕ). IsMost (number ns) (row j) (slice_index (set nodes (i / 16 - 1) now) j)) (put_back nodes (i / 16 - 1) now) (elim (cases_eq j (i / 16 - 1)) [
      | inl here ↦
          let e : now ≡ slice_index (set nodes (i / 16 - 1) now) j = sym (M.get_or-set_same nodes (i / 16 - 1) now 0 inside) ∙ ap (λ (k : ℕ). slice_index (set nodes (i / 16 - 1) now) k) (sym here) in
          subst (λ (m : ℕ). IsMost (number nodes) (row j) m) e (subst (λ (k : ℕ). IsMost (number nodes) (row k) now) (sym here) at_above)
      | inr apart ↦ subst (λ (m : ℕ). IsMost (number nodes) (row j) m) (sym (get_or-set_other nodes (i / 16 - 1) j now 0 apart)) (others j less (λ _. apart))
    ])
