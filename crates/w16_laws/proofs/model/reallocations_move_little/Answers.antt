use Rattle.w16_model.proofs.Reallocations.{moves_law}
use Rattle.w16_laws.proofs.model.reallocations_move_little.Goals as goal

pub returns : goal.returns
returns c = moves_law
