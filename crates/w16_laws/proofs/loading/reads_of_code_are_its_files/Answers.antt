use Rattle.w16_loading.proofs.CodeReads.{code_reads_law}
use Rattle.w16_laws.proofs.loading.reads_of_code_are_its_files.Goals as goal

pub returns : goal.returns
returns g c = code_reads_law _
