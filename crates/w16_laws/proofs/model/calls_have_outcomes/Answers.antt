use Rattle.w16_model.proofs.CallOutcomes.{outcome}
use Rattle.w16_laws.proofs.model.calls_have_outcomes.Goals as goal

pub returns : goal.returns
returns c = outcome
