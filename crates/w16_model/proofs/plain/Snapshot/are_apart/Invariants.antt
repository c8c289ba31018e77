use Rattle.w16_model.proofs.Common.{◌↔◌, AllPairs, length, Misses, block_end}
use Rattle.w16_model.proofs.plain.Snapshot.are_apart.Given as goal

abbrev pub invariant-loop-first : goal.invariant-loop-first
invariant-loop-first l = AllPairs (λ x y. Misses x.at x.size y.at (block_end y)) l.rest ↔ AllPairs (λ x y. Misses x.at x.size y.at (block_end y)) l.self.blocks.now

abbrev pub decreases-loop-first : goal.decreases-loop-first
decreases-loop-first l = length l.rest
