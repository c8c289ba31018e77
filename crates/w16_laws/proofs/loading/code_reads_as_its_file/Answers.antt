use Rattle.w16_loading.proofs.CodeLaw.{code_law}
use Rattle.w16_laws.proofs.loading.code_reads_as_its_file.Goals as goal

pub returns : goal.returns
returns g c = code_law _
