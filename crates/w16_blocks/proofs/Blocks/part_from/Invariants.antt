use Rattle.w16_blocks.proofs.Passed.{ArePassed}
use Rattle.w16_blocks.proofs.Blocks.part_from.Given as goal

abbrev pub invariant-loop-unit : goal.invariant-loop-unit
invariant-loop-unit g l = ArePassed l.self-inside.lo l.self-inside.hi l.self-inside.grain l.at l.self-inside.slots.items l.self-inside.begins.items l.unit
