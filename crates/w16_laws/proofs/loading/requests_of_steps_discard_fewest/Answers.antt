use Rattle.w16_loading.proofs.Requests.{requests_fewest_law}
use Rattle.w16_laws.proofs.loading.requests_of_steps_discard_fewest.Goals as goal

pub returns : goal.returns
returns g c = requests_fewest_law _
