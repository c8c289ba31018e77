use Rattle.w16_laws.proofs.Closed.{one_law}
use Rattle.w16_laws.proofs.loading.files_decide_a_closure.Goals as goal

pub returns : goal.returns
returns c = one_law
