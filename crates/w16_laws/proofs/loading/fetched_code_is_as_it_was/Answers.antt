use Rattle.w16_laws.proofs.loading.fetched_code_is_as_it_was.Goals as goal
use Rattle.w16_laws.proofs.Fetched.{fetch_again_law}

pub returns : goal.returns
returns g c = fetch_again_law _
