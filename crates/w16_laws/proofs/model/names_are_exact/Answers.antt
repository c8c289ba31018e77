use Rattle.w16_model.proofs.Naming.{names_law}
use Rattle.w16_laws.proofs.model.names_are_exact.Goals as goal

pub returns : goal.returns
returns c = names_law
