use Rattle.w16_arena.proofs.Gathering.{gathered_moved, gathered_free}
use Rattle.w16_arena.proofs.new_place.gather_for.Goals as goal

pub returns-clause-slid : goal.returns-clause-slid
returns-clause-slid g c =
    gathered_moved c.in_ok-gap.ensures.ordered c.in_ok-gap.ensures.found c.packed_to-from.ensures.run c.packed_to-from.ensures.high c.gather-moved.ensures.blocks c.gather-moved.ensures.contents c.gather-moved.ensures.rest.bytes.long c.gather-moved.ensures.ordered c.reveal_bytes.ensures

pub returns-clause-free : goal.returns-clause-free
returns-clause-free g c = gathered_free c.in_ok-gap.ensures.ordered c.in_ok-gap.ensures.found c.gather-moved.ensures.blocks c.gather-moved.ensures.left.clear
