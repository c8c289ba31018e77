-- How holes are kept at the side: a cell for each unit of grain, with the length of the hole that begins there.
use Rattle.std.specs.Prelude.{◌⊎◌, ℕ, ◌<◌, ◌≤◌, ◌≡◌, ◌+◌, ◌*◌, ◌-◌, ◌^◌, List, [], ◌∷◌, length, slice_index}
use Rattle.w16_model.specs.{declared.Span.Span, Heap.IsMultiple}
use Rattle.w16_holes.specs.{Holes.Range, Holes.add_span, declared.holes.TheConstants.LAST_END}

-- the holes that cells tell, the first of which is for place p
abbrev pub spans : ℕ → ℕ → List ℕ → List Span
spans g p [] = []
spans g p (n ∷ ns) = add_span p (p + n) (spans g (p + g) ns)

-- a hole ends before the next begins
pub record IsApart (g : ℕ) (ns : List ℕ) : Type 0 where
  pub apart : (k j : ℕ) → 0 < slice_index ns k → k < j → 0 < slice_index ns j → g * k + slice_index ns k < g * j

-- each hole ends inside a memory of some size
pub record IsInside (g size : ℕ) (ns : List ℕ) : Type 0 where
  pub inside : (k : ℕ) → 0 < slice_index ns k → g * k + slice_index ns k ≤ size

-- the cells of a range: one for each place in it, its end among them, and for each up to the highest end that it may be given later
pub record AreCells (r : Range) (ns : List ℕ) : Type 0 where
  pub some : 0 < r.grain
  pub from : IsMultiple r.grain r.lo
  pub ordered : r.lo ≤ r.hi
  pub small : r.hi < 2 ^ 32
  pub long : r.hi - r.lo < r.grain * length ns
  pub reserved : LAST_END - r.lo < r.grain * length ns
  pub apart : IsApart r.grain ns
  pub inside : IsInside r.grain (r.hi - r.lo) ns

-- in which cell the hole begins that ends q units from the start, or q where none does
abbrev pub IsBeginOf : ℕ → ℕ → List ℕ → ℕ → Type 0
IsBeginOf g q ns k = ((k < q) × (0 < slice_index ns k) × (g * k + slice_index ns k ≡ g * q)) ⊎ ((k ≡ q) × ((j : ℕ) → j < q → 0 < slice_index ns j → (g * j + slice_index ns j < g * q) ⊎ (g * q < g * j + slice_index ns j)))
