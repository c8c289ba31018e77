use Rattle.w16_ne.proofs.Fronts.{front_law}
use Rattle.w16_ne.proofs.laws.fronts_are_accepted_or_too_short.Goals as goal

pub returns : goal.returns
returns c = front_law
