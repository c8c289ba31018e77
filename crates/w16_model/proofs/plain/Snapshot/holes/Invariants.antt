use Rattle.w16_model.proofs.Common.{◌≡◌, ◌++◌, drop, is_any, holes, spans_from}
use Rattle.w16_model.proofs.Folds.{ends_of}
use Rattle.w16_model.proofs.plain.Snapshot.holes.Given as goal

abbrev pub invariant-loop-block : goal.invariant-loop-block
invariant-loop-block l = l.spans.items ++ spans_from is_any l.self.hi l.block-items (ends_of is_any (drop l.block-index l.block-items)) ≡ holes l.self.lo l.self.hi l.block-items
