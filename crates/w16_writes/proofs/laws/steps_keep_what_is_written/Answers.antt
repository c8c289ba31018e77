use Rattle.w16_writes.proofs.Steps.{step_law}
use Rattle.w16_writes.proofs.laws.steps_keep_what_is_written.Goals as goal

pub returns : goal.returns
returns g c = step_law _
