use Rattle.w16_model.proofs.KeptRest.{rest_law}
use Rattle.w16_laws.proofs.model.reallocations_keep_the_rest.Goals as goal

pub returns : goal.returns
returns c = rest_law
