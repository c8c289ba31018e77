use Rattle.w16_machine.proofs.LocalGoes.{goes_law}
use Rattle.w16_laws.proofs.{LocalGoes.never_back_law, LocalGoes.gone_law}
use Rattle.w16_laws.proofs.local.local_heaps_never_come_back.Goals as goal

pub returns-clause-goes : goal.returns-clause-goes
returns-clause-goes g c = goes_law _

pub returns-clause-never : goal.returns-clause-never
returns-clause-never g c = never_back_law _

pub returns-clause-gone : goal.returns-clause-gone
returns-clause-gone g c = gone_law _
