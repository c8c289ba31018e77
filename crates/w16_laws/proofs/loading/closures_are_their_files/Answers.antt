use Rattle.w16_laws.proofs.Closed.{files_law}
use Rattle.w16_laws.proofs.loading.closures_are_their_files.Goals as goal

pub returns : goal.returns
returns g c = files_law _
