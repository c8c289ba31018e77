use Rattle.w16_laws.proofs.Bound.{bound_law}
use Rattle.w16_laws.proofs.loading.modules_are_bound_once.Goals as goal

pub returns : goal.returns
returns g c = bound_law _
