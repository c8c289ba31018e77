use Rattle.w16_model.proofs.Reallocations.{fewest_law}
use Rattle.w16_laws.proofs.model.reallocations_discard_fewest.Goals as goal

pub returns : goal.returns
returns c = fewest_law
