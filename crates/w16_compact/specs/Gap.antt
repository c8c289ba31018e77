-- A gap with room.
use Rattle.std.specs.Prelude.{ℕ, ◌+◌, ◌≤◌, ◌≡◌, List, Option, Some, None}
use Rattle.w16_model.specs.{declared.Block.Block, Arrangement.IsGap, Gap.loose_bytes, Heap.IsMultiple}
use Rattle.w16_blocks.specs.Layout.{Layout, all_but}
use Rattle.w16_compact.specs.{declared.gaps.Gap.Gap, Gather.MayGather}

-- the blocks but for that of h
abbrev pub others : Option ℕ → List Block → List Block
others None bs = bs
others (Some id) bs = all_but id bs

-- the layout of these
abbrev pub without : Option ℕ → Layout → Layout
without h l = record l { blocks = others h l.blocks }

-- a gap with room for n bytes beside its loose blocks, whose bytes it tells; it may be gathered
pub record HasRoom (l : Layout) (n : ℕ) (g : Gap) : Type 0 where
  pub gap : IsGap l.lo l.hi l.blocks g.low g.high
  pub loose : g.loose ≡ loose_bytes l.blocks g.low g.high
  pub room : g.low + g.loose + n ≤ g.high
  pub grained : IsMultiple l.grain g.low
  pub may : MayGather l g.low g.high

-- no gap with room for n bytes begins lower
abbrev pub IsLowest : Layout → ℕ → ℕ → Type 0
IsLowest l n low = (a b : ℕ) → IsGap l.lo l.hi l.blocks a b → a + loose_bytes l.blocks a b + n ≤ b → low ≤ a
