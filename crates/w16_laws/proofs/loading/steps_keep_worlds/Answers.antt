use Rattle.w16_loading.proofs.WorldLaw.{keeps_worlds_law}
use Rattle.w16_laws.proofs.loading.steps_keep_worlds.Goals as goal

pub returns : goal.returns
returns g c = keeps_worlds_law _
