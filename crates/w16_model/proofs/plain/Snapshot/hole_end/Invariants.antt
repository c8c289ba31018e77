use Rattle.w16_model.proofs.Common.{◌≡◌, drop, first_from, is_any}
use Rattle.w16_model.proofs.plain.Snapshot.hole_end.Given as goal

abbrev pub invariant-loop-block : goal.invariant-loop-block
invariant-loop-block l = first_from is_any l.end (drop l.block-index l.block-items) l.from ≡ first_from is_any l.self.hi l.block-items l.from
