-- Blocks between two bounds, by address.
use Rattle.std.specs.Prelude.{ℕ, suc, ◌<◌, ◌≤◌, ◌≢◌, ◌==◌, ◌^◌, nat_lt, not, if◌then◌else◌, List, [], ◌∷◌, length, drop, map}
use Rattle.std.specs.List.{AllByRecursion, filter}
use Rattle.w16_model.specs.{declared.Block.Block, declared.Span.Span, Gap.block_end, Gap.Misses, Gap.IsLaid, Law.holes, Heap.IsMultiple}
use Rattle.w16_holes.specs.Holes.{Range}

-- what a list of blocks is: its ids are below `cap`, its blocks lie in [lo, hi) at multiples of the grain, listed by address
pub record Layout : Type 0 where
  pub cap : ℕ
  pub lo : ℕ
  pub hi : ℕ
  pub grain : ℕ
  pub blocks : List Block

-- the range that the blocks lie in
abbrev pub range_of : Layout → Range
range_of l = record { lo = l.lo; hi = l.hi; grain = l.grain }

-- the holes between the blocks
abbrev pub holes_of : Layout → List Span
holes_of l = holes l.lo l.hi l.blocks

-- a block at a multiple of the grain, of a size that is one
abbrev pub IsGrained : ℕ → Block → Type 0
IsGrained grain b = IsMultiple grain b.at × IsMultiple grain b.size

-- two blocks share no byte
abbrev pub IsApart : Block → Block → Type 0
IsApart b c = Misses b.at b.size c.at (block_end c)

-- ids below `cap`, each of one block
abbrev pub AreNamed : ℕ → List Block → Type 0
AreNamed cap [] = Unit {0}
AreNamed cap (b ∷ bs) = (b.id < cap) × AllByRecursion (λ c. c.id ≢ b.id) bs × AreNamed cap bs

-- what holds of each layout
pub record IsOrdered (l : Layout) : Type 0 where
  pub laid : IsLaid l.lo l.hi l.blocks
  pub named : AreNamed l.cap l.blocks
  pub grained : AllByRecursion (IsGrained l.grain) l.blocks
  pub from : IsMultiple l.grain l.lo
  pub small : l.hi < 2 ^ 32
  pub few : length l.blocks < 2 ^ 63

-- how many blocks begin below an address
abbrev pub rank : ℕ → List Block → ℕ
rank at [] = 0
rank at (b ∷ bs) = if nat_lt b.at at then suc (rank at bs) else 0

-- the blocks that begin at an address or above
abbrev pub from_address : ℕ → List Block → List Block
from_address at bs = drop (rank at bs) bs

-- the blocks with one more, in its place by address
abbrev pub placed : Block → List Block → List Block
placed b [] = b ∷ []
placed b (c ∷ cs) = if nat_lt c.at b.at then c ∷ placed b cs else b ∷ c ∷ cs

-- the blocks but for an id's
abbrev pub all_but : ℕ → List Block → List Block
all_but id bs = filter (λ b. not (b.id == id)) bs

-- the blocks with a block in place of the one of its id
abbrev pub replaced : Block → List Block → List Block
replaced b bs = placed b (all_but b.id bs)

-- a block, which has another id if it had this one
abbrev pub with_other_id : ℕ → ℕ → Block → Block
with_other_id id to b = if b.id == id then record b { id = to } else b

-- the blocks, an id's under another id
abbrev pub renamed : ℕ → ℕ → List Block → List Block
renamed id to bs = map (with_other_id id to) bs

-- a block that may be added: its id is free, it lies inside and meets no other
pub record Fits (l : Layout) (b : Block) : Type 0 where
  pub id : b.id < l.cap
  pub free : AllByRecursion (λ c. c.id ≢ b.id) l.blocks
  pub inside : (l.lo ≤ b.at) × (0 < b.size) × (block_end b ≤ l.hi)
  pub apart : AllByRecursion (λ c. IsApart b c) l.blocks
  pub grained : IsGrained l.grain b

-- a block that may stand in place of the one of its id
abbrev pub FitsFor : Layout → Block → Type 0
FitsFor l b = Fits (record { cap = l.cap; lo = l.lo; hi = l.hi; grain = l.grain; blocks = all_but b.id l.blocks }) b
