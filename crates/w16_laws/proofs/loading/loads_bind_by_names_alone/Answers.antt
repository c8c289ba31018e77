use Rattle.w16_laws.proofs.loading.loads_bind_by_names_alone.Goals as goal
use Rattle.w16_laws.proofs.Loads.{bound_alike_law}

pub returns : goal.returns
returns c = bound_alike_law
