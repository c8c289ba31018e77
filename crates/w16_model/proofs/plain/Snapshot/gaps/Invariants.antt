use Rattle.w16_model.proofs.Common.{◌≡◌, ◌++◌, drop, is_pinned, gaps, spans_from}
use Rattle.w16_model.proofs.Folds.{ends_of}
use Rattle.w16_model.proofs.plain.Snapshot.gaps.Given as goal

abbrev pub invariant-loop-block : goal.invariant-loop-block
invariant-loop-block l = l.spans.items ++ spans_from is_pinned l.self.hi l.block-items (ends_of is_pinned (drop l.block-index l.block-items)) ≡ gaps l.self.lo l.self.hi l.block-items
