use Rattle.w16_lru.proofs.Rings.{ring-empty}
use Rattle.w16_lru.proofs.Order.with_room.Goals as goal

pub invariant_of-result : goal.invariant_of-result
invariant_of-result g c = ring-empty _ _ _ c.in_ok-after.ensures c.in_ok-before.ensures
