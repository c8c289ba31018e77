use Rattle.w16_laws.proofs.RefusedLoad.{early_refusal_law}
use Rattle.w16_laws.proofs.loading.early_refusal_changes_nothing.Goals as goal

pub returns : goal.returns
returns g c = early_refusal_law _
