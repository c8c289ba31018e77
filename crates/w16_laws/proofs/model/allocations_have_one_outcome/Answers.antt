use Rattle.w16_laws.proofs.Outcomes.{outcome_law}
use Rattle.w16_laws.proofs.model.allocations_have_one_outcome.Goals as goal

pub returns : goal.returns
returns c = outcome_law
