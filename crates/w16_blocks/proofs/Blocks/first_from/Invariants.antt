use Rattle.w16_blocks.proofs.Common.{◌≡◌, ◌-◌, drop, slice_get, rank, blocks_in}
use Rattle.w16_blocks.proofs.Blocks.first_from.Given as goal

-- the block that is looked for is the first that the cells from here on tell
abbrev pub invariant-loop-unit : goal.invariant-loop-unit
invariant-loop-unit g l = slice_get l.self.blocks (rank l.at l.self.blocks) ≡ slice_get (blocks_in l.self-inside.slots.items (drop l.unit l.self-inside.begins.items)) 0

abbrev pub decreases-loop-unit : goal.decreases-loop-unit
decreases-loop-unit g l = l.units - l.unit
