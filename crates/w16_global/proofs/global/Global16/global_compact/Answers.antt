use Rattle.w16_global.proofs.Common.{global_compact_law}
use Rattle.w16_global.proofs.global.Global16.global_compact.Goals as goal

pub returns-clause-fewest : goal.returns-clause-fewest
returns-clause-fewest g c = global_compact_law _ _ _ _ c.reveal_handles.ensures c.compact.ensures.step
