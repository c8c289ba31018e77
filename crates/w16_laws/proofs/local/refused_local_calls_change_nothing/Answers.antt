use Rattle.w16_laws.proofs.LocalEffects.{refused_law}
use Rattle.w16_laws.proofs.local.refused_local_calls_change_nothing.Goals as goal

pub returns : goal.returns
returns c = refused_law
