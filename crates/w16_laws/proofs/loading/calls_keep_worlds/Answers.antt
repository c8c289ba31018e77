use Rattle.w16_laws.proofs.loading.calls_keep_worlds.Goals as goal
use Rattle.w16_laws.proofs.Loads.{calls_keep_worlds_law}

pub returns : goal.returns
returns c = calls_keep_worlds_law
