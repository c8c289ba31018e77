use Rattle.w16_model.proofs.Listed.{walk_law}
use Rattle.w16_laws.proofs.model.each_heap_has_one_walk.Goals as goal

pub returns : goal.returns
returns c = walk_law
