-- The first block from a place on, by the cells from a unit on.
use Rattle.w16_blocks.proofs
use proofs.Common as C
use proofs.Common.{ℕ, zero, suc, ◌≡◌, ◌+◌, ◌-◌, ◌*◌, ◌/◌, ◌<◌, ◌≤◌, ◌⊎◌, max, List, [], ◌∷◌, length, drop, Some, None, arith, refl, sym, ap, ◌∙◌, inl, inr, slice_index, slice_get, Block, Span, holes, length_at, IsIn, div_ceil, up, above, rank, slot_of, blocks_in}
use proofs.Cells.{All-told, each_told, begun_rest}
use proofs.Free.{Lacks, free_lacks}

pub rank_none : (at : ℕ) (bs : List Block) → C.AllByRecursion (λ c. at ≤ c.at) bs → rank at bs ≡ 0
rank_none at [] all = refl
rank_none at (b ∷ bs) all = rw (C.le-ltb b.at at all.0) refl

pub rank_more : (at : ℕ) (b : Block) (bs : List Block) → b.at < at → rank at (b ∷ bs) ≡ suc (rank at bs)
rank_more at b bs lt = rw (C.lt-ltb b.at at lt) refl

pub rank_same : (at : ℕ) (b : Block) (bs : List Block) → at ≤ b.at → rank at (b ∷ bs) ≡ 0
rank_same at b bs le = rw (C.le-ltb b.at at le) refl

-- where the units below u lie below a place, and the others don't
pub first_by_unit : (p g at : ℕ) (slots : List Block) (cells : List ℕ) (u : ℕ) → C.AreBegun p g slots cells → ((k : ℕ) → k < u → p + g * k < at) → ((k : ℕ) → u ≤ k → at ≤ p + g * k)
    → slice_get (blocks_in slots cells) (rank at (blocks_in slots cells)) ≡ slice_get (blocks_in slots (drop u cells)) 0
first_by_unit p g at slots cells zero begun less more =
    ap (slice_get _) (rank_none at _ (All-told (λ c. at ≤ c.at) slots cells (λ k id e. let place = (begun k id e).at in let above = more k (omega arith) in omega arith)))
first_by_unit p g at slots [] (suc u) begun less more = refl
first_by_unit p g at slots (zero ∷ cells) (suc u) begun less more =
    first_by_unit (p + g) g at slots cells u (begun_rest p g 0 slots cells begun) (λ k lt. let below = less (suc k) (omega arith) in omega arith) (λ k le. let above = more (suc k) (omega arith) in omega arith)
first_by_unit p g at slots (suc j ∷ cells) (suc u) begun less more =
    let place = (begun 0 j refl).at in let below = less 0 (omega arith) in
    ap (slice_get (slot_of slots j ∷ blocks_in slots cells)) (rank_more at (slot_of slots j) (blocks_in slots cells) (omega arith))
    ∙ first_by_unit (p + g) g at slots cells u (begun_rest p g (suc j) slots cells begun) (λ k lt. let less_one = less (suc k) (omega arith) in omega arith) (λ k le. let more_one = more (suc k) (omega arith) in omega arith)

-- a cell that tells none may be passed
pass_one : (slots : List Block) (cells : List ℕ) (u : ℕ) → slice_index cells u ≡ 0 → blocks_in slots (drop u cells) ≡ blocks_in slots (drop (suc u) cells)
pass_one slots [] zero clear = refl
pass_one slots [] (suc u) clear = refl
pass_one slots (zero ∷ cells) zero clear = refl
pass_one slots (suc j ∷ cells) zero clear = absurd (omega arith)
pass_one slots (c ∷ cells) (suc u) clear = pass_one slots cells u clear

pub pass : (slots : List Block) (cells : List ℕ) (u n : ℕ) → ((k : ℕ) → u ≤ k → k < u + n → slice_index cells k ≡ 0) → blocks_in slots (drop u cells) ≡ blocks_in slots (drop (u + n) cells)
pass slots cells u zero clear = let e : u ≡ u + 0 = omega arith in ap (λ m. blocks_in slots (drop m cells)) e
pass slots cells u (suc n) clear =
    let e : suc u + n ≡ u + suc n = omega arith in
    pass_one slots cells u (clear u (omega arith) (omega arith)) ∙ pass slots cells (suc u) n (λ k from to. clear k (omega arith) (omega arith)) ∙ ap (λ m. blocks_in slots (drop m cells)) e

-- a cell that tells a block has it first
pub first_here : (slots : List Block) (cells : List ℕ) (u id : ℕ) → slice_index cells u ≡ suc id → slice_get (blocks_in slots (drop u cells)) 0 ≡ Some (slot_of slots id)
first_here slots [] u id e = absurd (omega arith)
first_here slots (zero ∷ cells) zero id e = absurd (omega arith)
first_here slots (suc j ∷ cells) zero id e = let same : j ≡ id = omega arith in ap (λ i. Some (slot_of slots i)) same
first_here slots (c ∷ cells) (suc u) id e = first_here slots cells u id e

pub none_past : (slots : List Block) (cells : List ℕ) (u : ℕ) → length cells ≤ u → slice_get (blocks_in slots (drop u cells)) 0 ≡ None
none_past slots [] zero le = refl
none_past slots [] (suc u) le = refl
none_past slots (c ∷ cells) zero le = absurd (omega arith)
none_past slots (c ∷ cells) (suc u) le = none_past slots cells u (omega arith)

-- each byte of the hole that begins at a place is free
length_free : (a p : ℕ) (hs : List Span) → a ≤ p → p < a + length_at a hs → IsIn p hs
length_free a p [] from to = absurd (omega arith)
length_free a p (h ∷ hs) from to = elim (C.eqb_tells h.from a) [
  | inl same ↦ let long = rw same.0 at to in let at = same.1 in inl (omega arith, omega arith)
  | inr other ↦ inr (length_free a p hs from (let rest = rw other.0 at to in rest))
]

zero_or : (n : ℕ) → (n ≡ 0) ⊎ ((m : ℕ) × (n ≡ suc m))
zero_or zero = inl refl
zero_or (suc m) = inr (m, refl)

-- so in its units no block begins
pub clear_in : (cap lo hi g : ℕ) (slots : List Block) (cells : List ℕ) → C.AreTables cap lo hi g slots cells → (u hole : ℕ) → slice_index cells u ≡ 0 → hole ≡ length_at (lo + g * u) (holes lo hi (blocks_in slots cells))
    → (k : ℕ) → u ≤ k → k < u + max (hole / g) 1 → slice_index cells k ≡ 0
clear_in cap lo hi g slots cells t u hole clear is k from to = elim (zero_or _) [
  | inl none ↦ none
  | inr some ↦
      let begins = t.begun k some.0 some.1 in let place = begins.at in let size = begins.some in
      elim (C.cases_lt u k) [
        | inl past ↦
            let grain = t.some in let low = up g u k from in
            let units = up g (suc k - u) (hole / g) (omega arith) in
            let sum = ap (λ i. g * i) (let e : suc k ≡ u + (suc k - u) = omega arith in e) in
            let free = length_free (lo + g * u) (lo + g * k) _ (omega arith) (omega arith) in
            let lacks = each_told _ slots cells k some.0 some.1 (free_lacks _ lo hi _ t.ordered.laid free).2 in
            elim lacks [ inl before ↦ absurd (omega arith) | inr behind ↦ absurd (omega arith) ]
        | inr same ↦ let e : k ≡ u = omega arith in ap (slice_index cells) e ∙ clear
      ]
]

-- the first unit at or above a place
module _ (lo g at u : ℕ) (some : 0 < g) (is : u ≡ div_ceil (at - lo) g) where
  pub units_below : (k : ℕ) → k < u → lo + g * k < at
  units_below k lt = let up_to = C.div_ceil_times (at - lo) g some in let high = up_to.1 in let times : u * g ≡ div_ceil (at - lo) g * g = ap (λ (i : ℕ). i * g) is in let step = above g k u lt in omega arith

  pub units_above : (k : ℕ) → u ≤ k → at ≤ lo + g * k
  units_above k le = let up_to = C.div_ceil_times (at - lo) g some in let low = up_to.0 in let times : u * g ≡ div_ceil (at - lo) g * g = ap (λ (i : ℕ). i * g) is in let step = up g u k le in omega arith

-- a unit that begins inside the range begins at a place of it, and has a cell
module _ {cap lo hi g : ℕ} {slots : List Block} {cells : List ℕ} (t : C.AreTables cap lo hi g slots cells)
    {now : C.Layout} (view : C.layout_in cap lo hi g slots cells ≡ now) (units u : ℕ) (told : units ≡ div_ceil (now.hi - now.lo) now.grain) where
  is : units ≡ div_ceil (hi - lo) g
  is = told ∙ sym (ap (λ (l : C.Layout). div_ceil (l.hi - l.lo) l.grain) view)

  pub behind_all : units ≤ u → hi ≤ lo + g * u
  behind_all le = units_above lo g hi units t.some is u le

  pub unit_place : u < units → C.IsPlace (record { lo = lo; hi = hi; grain = g }) (lo + u * g)
  unit_place lt = let below = units_below lo g hi units t.some is u lt in record { from = omega arith; to = omega arith; grained = C.multiple_sum g lo (u * g) t.ordered.from (u, omega arith) }

  pub unit_inside : u < units → u < length cells
  unit_inside lt = let below = units_below lo g hi units t.some is u lt in let long = t.long in elim (C.cases_lt u (length cells)) [
    | inl less ↦ less
    | inr past ↦ let r = up g (length cells) u past in absurd (omega arith)
  ]

  -- from where the range ends on no block begins
  pub none_behind : units ≤ u → slice_get (blocks_in slots (drop u cells)) 0 ≡ None
  none_behind le =
      ap (λ (bs : List Block). slice_get bs 0) (pass slots cells u (length cells) (λ k from to. blank k (omega arith)))
      ∙ none_past slots cells (u + length cells) (omega arith)
    where
      blank : (k : ℕ) → units ≤ k → slice_index cells k ≡ 0
      blank k from = elim (zero_or (slice_index cells k)) [
        | inl none ↦ none
        | inr some ↦
            let begins = t.begun k some.0 some.1 in let place = begins.at in let size = begins.some in
            let high = units_above lo g hi units t.some is k from in
            let end = each_told (λ x. (lo ≤ x.at) × (0 < x.size) × (C.block_end x ≤ hi)) slots cells k some.0 some.1 (C.laid_each lo hi (blocks_in slots cells) t.ordered.laid) in
            let last = end.2 in absurd (omega arith)
      ]
