use Rattle.w16_machine.proofs.LocalNames.{names_law}
use Rattle.w16_laws.proofs.local.local_names_are_exact.Goals as goal
use Rattle.w16_laws.proofs.LocalHeaps.{named_law}

pub returns-clause-names : goal.returns-clause-names
returns-clause-names c = names_law

pub returns-clause-named : goal.returns-clause-named
returns-clause-named c = named_law
