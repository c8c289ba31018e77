use Rattle.w16_machine.proofs.Bystanders.{step_spares_law}
use Rattle.w16_laws.proofs.machine.steps_spare_other_objects.Goals as goal

pub returns : goal.returns
returns g c = step_spares_law _
