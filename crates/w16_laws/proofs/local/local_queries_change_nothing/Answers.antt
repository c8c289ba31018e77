use Rattle.w16_laws.proofs.LocalStill.{queries_law}
use Rattle.w16_laws.proofs.local.local_queries_change_nothing.Goals as goal

pub returns : goal.returns
returns c = queries_law
