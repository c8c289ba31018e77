use Rattle.w16_laws.proofs.RefusedLoad.{refused_load_law}
use Rattle.w16_laws.proofs.loading.refused_loads_leave_discards.Goals as goal

pub returns : goal.returns
returns g c = refused_load_law _
