use Rattle.w16_laws.proofs.Ends.{ends_law}
use Rattle.w16_laws.proofs.loading.each_closure_ends.Goals as goal

pub returns : goal.returns
returns c = ends_law
