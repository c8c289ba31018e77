use Rattle.w16_laws.proofs.machine.runs_discard_fewest.Goals as goal
use Rattle.w16_laws.proofs.Runs.{fewest_law}

pub returns : goal.returns
returns g c = fewest_law _
