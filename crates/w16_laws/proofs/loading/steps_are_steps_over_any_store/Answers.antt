use Rattle.w16_loading.proofs.Requests.{any_step_law}
use Rattle.w16_laws.proofs.loading.steps_are_steps_over_any_store.Goals as goal

pub returns : goal.returns
returns g c = any_step_law _
