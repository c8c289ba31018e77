use Rattle.w16_model.proofs.Common.{◌≡◌, max, map, drop, is_any, longest_hole, hole_after, largest}
use Rattle.w16_model.proofs.Folds.{ends_of}
use Rattle.w16_model.proofs.plain.Snapshot.longest_hole.Given as goal

abbrev pub invariant-loop-block : goal.invariant-loop-block
invariant-loop-block l = max l.longest (largest (map (hole_after l.self.hi l.block-items) (ends_of is_any (drop l.block-index l.block-items)))) ≡ longest_hole l.self.lo l.self.hi l.block-items
