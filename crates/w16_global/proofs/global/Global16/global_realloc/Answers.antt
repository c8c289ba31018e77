use Rattle.w16_model.proofs.ResizedHandles.{resize_fewest_law}
use Rattle.w16_global.proofs.global.Global16.global_realloc.Goals as goal

pub returns-clause-fewest : goal.returns-clause-fewest
returns-clause-fewest g c = resize_fewest_law _ _ _ _ _ _ c.reveal_handles.ensures c.change_object.ensures.step
