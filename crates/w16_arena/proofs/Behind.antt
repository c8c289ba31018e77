-- The hole behind a block, where a range ends later.
use Rattle.w16_arena.proofs
use proofs.Common.{◌≡◌, ℕ, ◌+◌, ◌-◌, ◌≤◌, true, false, cond, nat_le, List, [], ◌∷◌, Option, Some, None, option_map, unwrap_or, is_some, refl, ap, ◌∙◌, arith, inl, inr, cases_lt, le-leb, lt-leb, false≢true, Block, Layout, IsLaid, is_any, block_end, first_from, hole_after, slice_get, rank}
use Rattle.std.proofs.Common.{max, min, lt-ltb, le-ltb}

-- where no block begins at a place or above, the hole ends with the range
hole_open : (a end : ℕ) (bs : List Block) → slice_get bs (rank a bs) ≡ None → hole_after end bs a ≡ end - a
hole_open a end [] e = refl
hole_open a end (x ∷ xs) e = elim (cases_lt x.at a) [
  | inl below ↦ let rest = rw (lt-ltb x.at a below) at e in rw (lt-leb a x.at below) (hole_open a end xs rest)
  | inr from ↦ let some : ◌≡◌ {A = Option Block} (Some x) None = rw (le-ltb x.at a from) at e in cc
]

first_above : (lo hi end a m : ℕ) (xs : List Block) → IsLaid lo hi xs → m ≤ lo → m ≤ end → m ≤ first_from is_any end xs a
first_above lo hi end a m [] laid le up = up
first_above lo hi end a m (x ∷ xs) laid le up =
    let from = laid.0 in let rest = first_above (block_end x) hi end a m xs laid.2 (omega arith) up in
    elim (nat_le a x.at) as (λ b. m ≤ cond b (min x.at (first_from is_any end xs a)) (first_from is_any end xs a)) [ true ↦ omega arith | false ↦ rest ]

-- and else with the first of them
hole_closed : (lo hi end a : ℕ) (y : Block) (bs : List Block) → IsLaid lo hi bs → hi ≤ end → slice_get bs (rank a bs) ≡ Some y → hole_after end bs a ≡ y.at - a
hole_closed lo hi end a y [] laid le e = absurd (false≢true (ap is_some e))
hole_closed lo hi end a y (x ∷ xs) laid le e = elim (cases_lt x.at a) [
  | inl below ↦ let rest = rw (lt-ltb x.at a below) at e in rw (lt-leb a x.at below) (hole_closed (block_end x) hi end a y xs laid.2 le rest)
  | inr from ↦
      let some : Some x ≡ Some y = rw (le-ltb x.at a from) at e in let same : x ≡ y = cc in
      let place = ap (λ z. z.at) same in let up = laid_up _ hi xs laid.2 in
      let first = first_above _ hi end a x.at xs laid.2 (omega arith) (omega arith) in
      rw (le-leb a x.at from) (omega arith)
]
  where
    laid_up : (lo hi : ℕ) (xs : List Block) → IsLaid lo hi xs → lo ≤ hi
    laid_up lo hi [] laid = laid
    laid_up lo hi (x ∷ xs) laid = let from = laid.0 in let rest = laid_up (block_end x) hi xs laid.2 in omega arith

-- so a block can have what it has and the hole behind it, or all up to the end where it is the last
pub behind_is : (l : Layout) → IsLaid l.lo l.hi l.blocks → (b : Block) → block_end b ≤ l.hi → (next : Option Block) → slice_get l.blocks (rank (block_end b) l.blocks) ≡ next → (free : ℕ) → free ≡ hole_after l.hi l.blocks (block_end b)
    → (last : Option ℕ) → last ≡ elim next as (λ _. Option ℕ) [ Some y ↦ None | None ↦ Some b.at ]
    → (end : ℕ) → l.hi ≤ end → max (b.size + free) (unwrap_or (option_map (λ place. end - place) last) 0) ≡ b.size + hole_after end l.blocks (block_end b)
behind_is l laid b inside None e free is last which end le =
    let now = hole_open (block_end b) l.hi l.blocks e in let then = hole_open (block_end b) end l.blocks e in
    ap (λ p. max (b.size + free) (unwrap_or (option_map (λ place. end - place) p) 0)) which ∙ omega arith
behind_is l laid b inside (Some y) e free is last which end le =
    let now = hole_closed l.lo l.hi l.hi (block_end b) y l.blocks laid (omega arith) e in let then = hole_closed l.lo l.hi end (block_end b) y l.blocks laid le e in
    ap (λ p. max (b.size + free) (unwrap_or (option_map (λ place. end - place) p) 0)) which ∙ omega arith
