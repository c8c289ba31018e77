-- Blocks slid to the low end of a gap.
use Rattle.std.specs.Prelude.{ℕ, IsTrue, ◌+◌, ◌<◌, ◌≤◌, ◌≡◌, ◌==◌, ◌⊎◌, nat_lt, if◌then◌else◌, List, [], ◌∷◌, map}
use Rattle.std.specs.List.{AllByRecursion}
use Rattle.w16_model.specs.{Bytes.part, declared.Block.Block, declared.Hold.TheVariants.Loose, Gap.block_end, Gap.is_any, Gap.is_pinned, Gap.IsClear, Arrangement.IsGap, Gap.IsHole}
use Rattle.w16_blocks.specs.Layout.{Layout}

-- blocks by address, those below `high` one after another from `to` on, and the others as they are
abbrev pub packed : ℕ → ℕ → List Block → List Block
packed high to [] = []
packed high to (b ∷ bs) = if nat_lt b.at high then record b { at = to } ∷ packed high (to + b.size) bs else b ∷ bs

-- blocks by address, those of [low, high) one after another from `low` on, and the others as they are
abbrev pub gathered : ℕ → ℕ → List Block → List Block
gathered low high [] = []
gathered low high (b ∷ bs) = if nat_lt b.at low then b ∷ gathered low high bs else packed high low (b ∷ bs)

-- each block's id and bytes
abbrev pub contents : List ℕ → List Block → List (ℕ × List ℕ)
contents bytes bs = map (λ b. (b.id, part bytes b.at b.size)) bs

-- the sizes of the blocks whose address changed, together
abbrev pub moved_between : List Block → List Block → ℕ
moved_between [] cs = 0
moved_between (b ∷ bs) [] = 0
moved_between (b ∷ bs) (c ∷ cs) = (if b.at == c.at then 0 else b.size) + moved_between bs cs

-- a block that lies below [low, high), or above it, or inside and may slide
abbrev pub FitsGap : ℕ → ℕ → Block → Type 0
FitsGap low high b = (block_end b ≤ low) ⊎ ((high ≤ b.at) ⊎ ((low ≤ b.at) × (block_end b ≤ high) × (b.hold ≡ Loose)))

-- [low, high) has no pinned byte, and no block reaches over an end of it
pub record MayGather (l : Layout) (low high : ℕ) : Type 0 where
  pub inside : (l.lo ≤ low) × (low ≤ high) × (high ≤ l.hi)
  pub loose : AllByRecursion (FitsGap low high) l.blocks

-- the same blocks in the same order, at any addresses, the pinned ones where they were
abbrev pub AreSlid : List Block → List Block → Type 0
AreSlid [] [] = Unit {0}
AreSlid [] (c ∷ cs) = ⊥
AreSlid (b ∷ bs) [] = ⊥
AreSlid (b ∷ bs) (c ∷ cs) = (c ≡ record b { at = c.at }) × (IsTrue (is_pinned b) → c.at ≡ b.at) × AreSlid bs cs

-- Of [low, high) just [free, end) is left free: no block has a byte of it, and where the interval was a gap it is a hole, if it has a byte, and the only one there.
pub record LeavesFree (low high free end : ℕ) (old new : Layout) : Type 0 where
  pub clear : IsClear is_any old.lo old.hi new.blocks free end
  pub hole : IsGap old.lo old.hi old.blocks low high → free < end → IsHole old.lo old.hi new.blocks free end
  pub alone : IsGap old.lo old.hi old.blocks low high → (a b : ℕ) → IsHole old.lo old.hi new.blocks a b → (b ≤ low) ⊎ ((high ≤ a) ⊎ ((a ≡ free) × (b ≡ end)))
