use Rattle.w16_arena.proofs.Keeping.{keeps_holes}
use Rattle.w16_arena.proofs.new_place.insert.Goals as goal

pub returns-clause-bytes : goal.returns-clause-bytes
returns-clause-bytes g c = let l = c.args.blocks.now in keeps_holes l.lo l.hi _ _ _ c.bounds.ensures.ordered.laid c.insert.ensures.rest c.insert.ensures.written
