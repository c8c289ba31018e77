use Rattle.w16_global.proofs.Common.{global_alloc_law}
use Rattle.w16_global.proofs.global.Global16.global_alloc.Goals as goal

pub returns-clause-fewest : goal.returns-clause-fewest
returns-clause-fewest g c = global_alloc_law _ _ _ _ _ c.reveal_handles.ensures c.new_object.ensures.step
