use Rattle.w16_loading.proofs.Undone.{undone_law}
use Rattle.w16_laws.proofs.loading.names_are_taken_back.Goals as goal

pub returns : goal.returns
returns c = undone_law
