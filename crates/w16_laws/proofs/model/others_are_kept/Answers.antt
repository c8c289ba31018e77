use Rattle.w16_model.proofs.Others.{others_law}
use Rattle.w16_laws.proofs.model.others_are_kept.Goals as goal

pub returns : goal.returns
returns c = others_law
