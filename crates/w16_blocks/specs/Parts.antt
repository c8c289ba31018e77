-- The parts of a range, which are its blocks and the holes between them, and the first of them from an address on.
use Rattle.std.specs.Prelude.{ℕ, ◌≡◌, ◌<◌, ◌≤◌, ◌⊎◌, All, Some, None, slice_get}
use Rattle.w16_model.specs.{declared.Block.Block, declared.Span.Span, Gap.IsHole}
use Rattle.w16_blocks.specs.declared.parts.Part.TheVariants.{Hole, Block as Taken}
use Rattle.w16_blocks.specs.{declared.parts.Part.Part, Layout.Layout, Layout.rank}

-- if a part is a hole, this holds of it
abbrev pub IfHole : Part → (Span → Type 0) → Type 0
IfHole (Hole s) P = P s
IfHole (Taken b) P = Unit {0}

-- if a part is a block, this holds of it
abbrev pub IfBlock : Part → (Block → Type 0) → Type 0
IfBlock (Hole s) P = Unit {0}
IfBlock (Taken b) P = P b

-- a hole that begins at an address or above it, and no block begins between
pub record IsFirstHole (l : Layout) (at : ℕ) (s : Span) : Type 0 where
  pub hole : IsHole l.lo l.hi l.blocks s.from s.to
  pub above : at ≤ s.from
  pub first : All (λ b. (b.at < at) ⊎ (s.to ≤ b.at)) l.blocks

-- the first block that begins at an address or above it, and each such hole is after it
pub record IsFirstBlock (l : Layout) (at : ℕ) (b : Block) : Type 0 where
  pub block : slice_get l.blocks (rank at l.blocks) ≡ Some b
  pub first : (a e : ℕ) → IsHole l.lo l.hi l.blocks a e → at ≤ a → b.at < a

-- no block and no hole begins at an address or above it
pub record IsBehindAll (l : Layout) (at : ℕ) : Type 0 where
  pub no_block : slice_get l.blocks (rank at l.blocks) ≡ None
  pub no_hole : (a e : ℕ) → IsHole l.lo l.hi l.blocks a e → at ≤ a → ⊥
