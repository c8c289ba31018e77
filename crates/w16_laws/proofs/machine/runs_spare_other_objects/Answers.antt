use Rattle.w16_laws.proofs.machine.runs_spare_other_objects.Goals as goal
use Rattle.w16_laws.proofs.Runs.{run_spares_law}

pub returns : goal.returns
returns g c = run_spares_law _
