use Rattle.w16_model.proofs.Common.{◌≡◌, ◌+◌, drop, loose_bytes}
use Rattle.w16_model.proofs.plain.Snapshot.loose_between.Given as goal

abbrev pub invariant-loop-block : goal.invariant-loop-block
invariant-loop-block l = l.bytes + loose_bytes (drop l.block-index l.block-items) l.from l.end ≡ loose_bytes l.block-items l.from l.end
