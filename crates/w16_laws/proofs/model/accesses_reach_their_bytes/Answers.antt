use Rattle.w16_model.proofs.FarLaws.{far_effect_law}
use Rattle.w16_laws.proofs.model.accesses_reach_their_bytes.Goals as goal
use Rattle.w16_laws.proofs.FarAccesses.{read_back_law}

pub returns-clause-effect : goal.returns-clause-effect
returns-clause-effect c = far_effect_law

pub returns-clause-back : goal.returns-clause-back
returns-clause-back c = read_back_law
