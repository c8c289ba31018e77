use Rattle.w16_laws.proofs.Cascade.{one_end_law}
use Rattle.w16_laws.proofs.loading.modules_go_to_one_end.Goals as goal

pub returns : goal.returns
returns c = one_end_law
