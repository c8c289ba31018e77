use Rattle.w16_model.proofs.KindChanges.{kind_law}
use Rattle.w16_laws.proofs.model.kinds_change_alone.Goals as goal

pub returns : goal.returns
returns c = kind_law
