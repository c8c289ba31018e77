-- Room that is made for new bytes: the blocks that slid for it, and the place that it leaves.
use Rattle.std.specs.Prelude.{ℕ, ◌+◌, ◌-◌, ◌<◌, ◌≤◌, ◌≡◌, ◌⊎◌, Bool, if◌then◌else◌, nat_le, List, [], ◌∷◌, length, find, All, MatchOption}
use Rattle.std.specs.List.{AllByRecursion}
use Rattle.w16_model.specs.{Bytes.part, declared.Block.Block, declared.Hold.TheVariants.Loose, Gap.block_end, Gap.is_pinned, Gap.Misses, Gap.IsClear, Law.holes, Gap.room, Gap.longest_hole, Heap.IsMultiple, Table.Table}
use Rattle.w16_blocks.specs.Layout.{Layout, IsOrdered}
use Rattle.w16_compact.specs.{declared.gaps.Gap.Gap, Gap.HasRoom, Gap.IsLowest}

-- two lists of blocks, block by block
abbrev pub EachTwo : (Block → Block → Type 0) → List Block → List Block → Type 0
EachTwo R [] [] = Unit {0}
EachTwo R [] (c ∷ cs) = ⊥
EachTwo R (b ∷ bs) [] = ⊥
EachTwo R (b ∷ bs) (c ∷ cs) = R b c × EachTwo R bs cs

-- a block that stands where it stood, or is a loose one that slid between two addresses; its bytes came along
pub record Slides (low high : ℕ) (memory after : List ℕ) (b c : Block) : Type 0 where
  pub same : c ≡ record b { at = c.at }
  pub place : (c.at ≡ b.at) ⊎ ((b.hold ≡ Loose) × (low ≤ c.at) × (block_end c ≤ high) × (low ≤ b.at) × (block_end b ≤ high))
  pub bytes : part after c.at c.size ≡ part memory b.at b.size

-- blocks and a memory, and the same once blocks between two addresses slid
pub record AreMoved (low high : ℕ) (old : Layout) (memory : List ℕ) (new : Layout) (after : List ℕ) : Type 0 where
  pub same : new ≡ record old { blocks = new.blocks }
  pub blocks : EachTwo (Slides low high memory after) old.blocks new.blocks
  pub unpinned : low < high → IsClear is_pinned old.lo old.hi old.blocks low high
  pub ordered : IsOrdered new
  pub size : length after ≡ length memory
  pub bytes : All (λ b. b < 256) memory → All (λ b. b < 256) after

-- n bytes from an address on are no block's
pub record AreFreeBytes (l : Layout) (n at : ℕ) : Type 0 where
  pub above : l.lo ≤ at
  pub below : at + n ≤ l.hi
  pub grained : IsMultiple l.grain at
  pub misses : AllByRecursion (λ x. Misses x.at x.size at (at + n)) l.blocks

-- the most bytes in a row that there can be, with or without sliding
abbrev pub most_for : Layout → Bool → ℕ
most_for l compact = if compact then room l.lo l.hi l.blocks else longest_hole l.lo l.hi l.blocks

-- directly after the loose blocks of the lowest gap with room for n bytes, gathered
abbrev pub IsLowestGathered : Layout → ℕ → ℕ → Type 0
IsLowestGathered l n at = (gap : Gap) × HasRoom l n gap × IsLowest l n gap.low × (at ≡ gap.low + gap.loose)

-- where the lowest hole of n bytes begins, or there where no hole is as long
abbrev pub IsLowestPlace : Layout → ℕ → ℕ → Type 0
IsLowestPlace l n at = MatchOption (find (λ s. nat_le n (s.to - s.from)) (holes l.lo l.hi l.blocks)) (IsLowestGathered l n at) (λ s. at ≡ s.from)

-- the same of a table
abbrev pub most_in : Table → Bool → ℕ
most_in t compact = if compact then room t.lo t.hi t.blocks else longest_hole t.lo t.hi t.blocks
