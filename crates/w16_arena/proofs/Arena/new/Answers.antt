use Rattle.std.proofs.Common.{arith}
use Rattle.w16_arena.proofs.Fresh.{fresh_kept}
use Rattle.w16_arena.proofs.Arena.new.Goals as goal

pub invariant_of-result : goal.invariant_of-result
invariant_of-result g c =
    rw (c.in_ok-entries.ensures, c.in_ok-blocks.ensures, c.in_ok-order.ensures, c.in_ok-discarded.ensures.exact)
    (fresh_kept _ _ _ _ c.requires.bounds c.requires.grained _ c.in_ok-gap_rooms.ensures _ (omega arith))
