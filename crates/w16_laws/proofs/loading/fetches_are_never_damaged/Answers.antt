use Rattle.w16_laws.proofs.loading.fetches_are_never_damaged.Goals as goal
use Rattle.w16_laws.proofs.Fetched.{fetch_faults_law}

pub returns : goal.returns
returns g c = fetch_faults_law _
