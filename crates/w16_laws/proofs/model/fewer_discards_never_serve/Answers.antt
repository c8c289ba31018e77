use Rattle.w16_model.proofs.Least.{discards_are_least}
use Rattle.w16_laws.proofs.model.fewer_discards_never_serve.Goals as goal

pub returns : goal.returns
returns c = discards_are_least
