use Rattle.w16_model.proofs.Growth.{one_outcome_law}
use Rattle.w16_laws.proofs.model.reallocations_have_one_outcome.Goals as goal

pub returns : goal.returns
returns c = one_outcome_law
