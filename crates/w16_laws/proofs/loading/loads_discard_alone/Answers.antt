use Rattle.w16_laws.proofs.loading.loads_discard_alone.Goals as goal
use Rattle.w16_laws.proofs.Loads.{fills_law}

pub returns : goal.returns
returns g c = fills_law _
