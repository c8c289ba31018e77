-- A run of blocks, which slides as one.
use Rattle.std.specs.Prelude.{ℕ, ◌≡◌, ◌≢◌, ◌+◌, ◌-◌, ◌<◌, ◌≤◌, ◌⊎◌, ◌&&◌, nat_le, nat_lt, if◌then◌else◌, List}
use Rattle.std.specs.List.{AllByRecursion}
use Rattle.w16_model.specs.{declared.Block.Block, declared.Span.Span, Gap.block_end, Heap.IsMultiple}
use Rattle.w16_holes.specs.Law.{IsIn}
use Rattle.w16_blocks.specs.Layout.{Layout, holes_of}

-- no block reaches over a place
abbrev pub IsCut : ℕ → List Block → Type 0
IsCut p bs = AllByRecursion (λ b. (block_end b ≤ p) ⊎ (p ≤ b.at)) bs

-- a part of the range that is whole blocks, one after another: no block reaches over an end of it, and no byte of it is free
pub record IsRun (l : Layout) (s : Span) : Type 0 where
  pub inside : (l.lo ≤ s.from) × (s.from ≤ s.to) × (s.to ≤ l.hi)
  pub grained : IsMultiple l.grain s.from × IsMultiple l.grain s.to
  pub whole : IsCut s.from l.blocks × IsCut s.to l.blocks
  pub full : (p : ℕ) → s.from ≤ p → p < s.to → IsIn p (holes_of l) → ⊥

-- a run ends where no block begins, or at `high`
abbrev pub EndsAt : Layout → ℕ → ℕ → Type 0
EndsAt l high end = (end ≡ high) ⊎ AllByRecursion (λ b. b.at ≢ end) l.blocks

-- and begins where no block ends, or at `low`
abbrev pub BeginsAt : Layout → ℕ → ℕ → Type 0
BeginsAt l low begin = (begin ≡ low) ⊎ AllByRecursion (λ b. block_end b ≢ begin) l.blocks

-- no block has a byte of [from, to)
abbrev pub IsBare : ℕ → ℕ → List Block → Type 0
IsBare from to bs = AllByRecursion (λ b. (block_end b ≤ from) ⊎ (to ≤ b.at)) bs

-- a block, where what begins in a run slides to a place
abbrev pub slid_with : Span → ℕ → Block → Block
slid_with run to b = if nat_le run.from b.at && nat_lt b.at run.to then record b { at = to + (b.at - run.from) } else b
