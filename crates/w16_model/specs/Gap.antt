-- Gaps, holes and room, over the blocks of a heap in any order. A block is an object that has bytes, by where it stands.
use Rattle.std.specs.Prelude.{◌≡◌, ℕ, ◌+◌, ◌-◌, ◌<◌, ◌≤◌, ◌⊎◌, max, min, Bool, true, false, not, ◌&&◌, if◌then◌else◌, nat_le, nat_lt, IsTrue, List, [], ◌∷◌, map, filter, sum_by, All, AllPairs}
use Rattle.w16_model.specs.{declared.Block.Block, declared.Hold.Hold, declared.Hold.TheVariants.Pinned, declared.Hold.TheVariants.Loose}

-- Pinned: the block of a fixed or a locked object, which keeps its address (GlobalAlloc, GMEM_FIXED; GlobalLock). Any other block is loose.
abbrev pub holds_still : Hold → Bool
holds_still Pinned = true
holds_still Loose = false

abbrev pub is_pinned : Block → Bool
is_pinned x = holds_still x.hold

abbrev pub is_loose : Block → Bool
is_loose x = not (holds_still x.hold)

abbrev pub is_any : Block → Bool
is_any x = true

-- the first place behind a block
abbrev pub block_end : Block → ℕ
block_end x = x.at + x.size

-- the n bytes at p and the interval [a, b) share no byte
abbrev pub Misses : ℕ → ℕ → ℕ → ℕ → Type 0
Misses p n a b = (p + n ≤ a) ⊎ (b ≤ p)

-- the blocks lie in [lo, hi), each has bytes, and no two share a byte
pub record ArePlaced (lo hi : ℕ) (xs : List Block) : Type 0 where
  pub inside : All (λ x. (lo ≤ x.at) × (0 < x.size) × (block_end x ≤ hi)) xs
  pub apart : AllPairs (λ x y. Misses x.at x.size y.at (block_end y)) xs

-- the same of blocks that are listed by address: sorted, apart and inside
abbrev pub IsLaid : ℕ → ℕ → List Block → Type 0
IsLaid lo hi [] = lo ≤ hi
IsLaid lo hi (x ∷ xs) = (lo ≤ x.at) × (0 < x.size) × IsLaid (block_end x) hi xs

-- Gaps and holes, as intervals.

-- [a, b) lies in [lo, hi) and has no byte of a block that passes the test
pub record IsClear (test : Block → Bool) (lo hi : ℕ) (xs : List Block) (a b : ℕ) : Type 0 where
  pub above : lo ≤ a
  pub below : b ≤ hi
  pub misses : All (λ x. IsTrue (test x) → Misses x.at x.size a b) xs

-- a maximal such interval, and not an empty one
pub record IsGapOf (test : Block → Bool) (lo hi : ℕ) (xs : List Block) (a b : ℕ) : Type 0 where
  pub some : a < b
  pub clear : IsClear test lo hi xs a b
  pub maximal : (c d : ℕ) → c ≤ a → b ≤ d → IsClear test lo hi xs c d → (c ≡ a) × (d ≡ b)

-- a hole: a maximal interval without any object's byte
abbrev pub IsHole : ℕ → ℕ → List Block → ℕ → ℕ → Type 0
IsHole = IsGapOf is_any

-- The same, computed.

-- the first place at or after a where a block that passes the test begins, or hi
abbrev pub first_from : (Block → Bool) → ℕ → List Block → ℕ → ℕ
first_from test hi [] a = hi
first_from test hi (x ∷ xs) a = if test x && nat_le a x.at then min x.at (first_from test hi xs a) else first_from test hi xs a

-- where an interval without such blocks may begin: at lo, or behind one of them
abbrev pub starts : (Block → Bool) → ℕ → List Block → List ℕ
starts test lo xs = lo ∷ map block_end (filter test xs)

abbrev pub begins_in : ℕ → ℕ → Block → Bool
begins_in a b x = nat_le a x.at && nat_lt x.at b

-- the bytes of the loose blocks that begin in [a, b)
abbrev pub loose_bytes : List Block → ℕ → ℕ → ℕ
loose_bytes xs a b = sum_by (λ x. x.size) (filter (λ x. is_loose x && begins_in a b x) xs)

abbrev pub largest : List ℕ → ℕ
largest [] = 0
largest (n ∷ ns) = max n (largest ns)

-- what the gap that begins at a has beside its loose blocks
abbrev pub room_from : ℕ → List Block → ℕ → ℕ
room_from hi xs a = let b = first_from is_pinned hi xs a in b - a - loose_bytes xs a b

-- room: the largest, over all gaps, of a gap's length less the sizes of its loose blocks; 0 where there is no gap.
-- It is what GlobalCompact can make without a discard.
abbrev pub room : ℕ → ℕ → List Block → ℕ
room lo hi xs = largest (map (room_from hi xs) (starts is_pinned lo xs))

-- the length of the longest hole, 0 where there is none
abbrev pub longest_hole : ℕ → ℕ → List Block → ℕ
longest_hole lo hi xs = largest (map (λ a. first_from is_any hi xs a - a) (starts is_any lo xs))

-- the length of the hole that begins at a place, 0 where none does
abbrev pub hole_after : ℕ → List Block → ℕ → ℕ
hole_after hi xs a = first_from is_any hi xs a - a
