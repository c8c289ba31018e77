use Rattle.w16_reloc.proofs.FaultLemmas.{first_fault}
use Rattle.w16_reloc.proofs.laws.first_faults_are_told.Goals as goal

pub returns : goal.returns
returns c = first_fault
