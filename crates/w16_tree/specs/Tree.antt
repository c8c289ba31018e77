-- How the numbers are kept: a tree of rows in a list. Row 0 is the top, the row below node i begins at place `row i`, and the leaves are the last level.
use Rattle.std.specs.Prelude.{ℕ, zero, suc, ◌<◌, ◌≤◌, ◌≡◌, ◌+◌, ◌++◌, ◌*◌, ◌/◌, ◌%◌, List, Option, Some, None, length, take, drop, replicate, slice_index}

-- where the row below a node begins
abbrev pub row : ℕ → ℕ
row i = 16 * (i + 1)

-- where what lies h levels below a node begins: it ends where the next node's begins
abbrev pub begin : ℕ → ℕ → ℕ
begin zero i = i
begin (suc h) i = begin h (row i)

-- the numbers by their places
abbrev pub number : List ℕ → ℕ → ℕ
number nodes p = slice_index nodes p

-- the maximum of a row: a bound that is met
pub record IsMost (f : ℕ → ℕ) (at m : ℕ) : Type 0 where
  pub bound : (p : ℕ) → at ≤ p → p < at + 16 → f p ≤ m
  pub met : (p : ℕ) × (at ≤ p) × (p < at + 16) × (f p ≡ m)

-- each inner node is the maximum of the row below it
abbrev pub IsUpheld : ℕ → (ℕ → ℕ) → Type 0
IsUpheld leaves f = (j : ℕ) → j < leaves → IsMost f (row j) (f j)

-- the first leaves are the list; those that the nodes don't have are 0
abbrev pub list_of : ℕ → ℕ → List ℕ → List ℕ
list_of len leaves nodes = take len (drop leaves nodes ++ replicate len 0)

-- how many nodes there are in whole rows, if all these leaves, and one more, are there
abbrev pub nodes_for : ℕ → ℕ → ℕ
nodes_for leaves len = (leaves + len) / 16 * 16 + 16

-- a tree of a height in whole rows, of which each inner node and a row of leaves are there; leaves that aren't in the list are 0
pub record IsTree (height len leaves : ℕ) (nodes : List ℕ) : Type 0 where
  pub wide : begin height 0 ≡ leaves
  pub room : len < 15 * leaves + 16
  pub rows : length nodes % 16 ≡ 0
  pub long : leaves + 16 ≤ length nodes
  pub rest : (k : ℕ) → len ≤ k → slice_index nodes (leaves + k) ≡ 0
  pub upheld : IsUpheld leaves (number nodes)

-- the last leaf above 0 before a place, by its place among the leaves
abbrev pub IsLastLeaf : ℕ → (ℕ → ℕ) → ℕ → Option ℕ → Type 0
IsLastLeaf leaves f end (Some k) = (leaves + k < end) × (0 < f (leaves + k)) × ((p : ℕ) → leaves + k < p → p < end → f p ≡ 0)
IsLastLeaf leaves f end None = (p : ℕ) → leaves ≤ p → p < end → f p ≡ 0

-- the first leaf of at least a bound, by its place among the leaves
abbrev pub IsFirstLeaf : ℕ → (ℕ → ℕ) → ℕ → Option ℕ → Type 0
IsFirstLeaf leaves f n (Some k) = (n ≤ f (leaves + k)) × ((p : ℕ) → leaves ≤ p → p < leaves + k → f p < n)
IsFirstLeaf leaves f n None = (p : ℕ) → leaves ≤ p → p < row leaves → f p < n
