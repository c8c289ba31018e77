-- Blocks slid to the high end of an interval, and a gap that is opened after one of its blocks.
use Rattle.std.specs.Prelude.{ℕ, ◌+◌, ◌-◌, if◌then◌else◌, List, map, Some}
use Rattle.w16_model.specs.{declared.Block.Block, Gap.begins_in, Gap.loose_bytes, Reallocation.loosened}
use Rattle.w16_blocks.specs.Layout.{Layout}
use Rattle.w16_compact.specs.Gather.{gathered}

-- a block, where what begins in [low, high) slides up to `high`: from there on just the loose blocks from it on have room
abbrev pub raised_in : List Block → ℕ → ℕ → Block → Block
raised_in bs low high b = if begins_in low high b then record b { at = high - loose_bytes bs b.at high } else b

-- blocks, those of [low, high) one after another up to `high`, and the others as they are
abbrev pub raised : ℕ → ℕ → List Block → List Block
raised low high bs = map (raised_in bs low high) bs

-- blocks by address, those of [low, end) slid down to `low`, those of [end, high) up to `high`, and the others as they are
abbrev pub opened : ℕ → ℕ → ℕ → List Block → List Block
opened low end high bs = raised end high (gathered low end bs)

-- where a block ends that slides down to `low` after the loose blocks that stand below it
abbrev pub end_in : List Block → ℕ → Block → ℕ
end_in bs low b = low + loose_bytes bs low b.at + b.size

-- what an interval has beside its loose blocks
abbrev pub spare_in : List Block → ℕ → ℕ → ℕ
spare_in bs low high = high - low - loose_bytes bs low high

-- a layout in which an id's block counts as loose
abbrev pub with_loose : ℕ → Layout → Layout
with_loose id l = record l { blocks = loosened (Some id) l.blocks }
