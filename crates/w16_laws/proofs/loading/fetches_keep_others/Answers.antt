use Rattle.w16_laws.proofs.Fetched.{fetch_law}
use Rattle.w16_laws.proofs.loading.fetches_keep_others.Goals as goal

pub returns : goal.returns
returns g c = fetch_law _
