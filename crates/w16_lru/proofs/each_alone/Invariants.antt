use Rattle.w16_lru.proofs.Common.{◌≡◌, range_with_len}
use Rattle.w16_lru.proofs.each_alone.Given as goal

abbrev pub invariant-loop-id : goal.invariant-loop-id
invariant-loop-id g l = l.links.items ≡ range_with_len 0 l.id
