use Rattle.w16_laws.proofs.Fetched.{refused_law}
use Rattle.w16_laws.proofs.loading.refused_fetch_changes_nothing.Goals as goal

pub returns : goal.returns
returns g c = refused_law _
