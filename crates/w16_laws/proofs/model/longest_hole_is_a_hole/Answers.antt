use Rattle.w16_model.proofs.Starts.{hole_is_longest}
use Rattle.w16_laws.proofs.model.longest_hole_is_a_hole.Goals as goal

pub returns : goal.returns
returns c = hole_is_longest
