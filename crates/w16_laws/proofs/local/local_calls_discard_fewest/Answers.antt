use Rattle.w16_machine.proofs.LocalFewest.{local_alloc_law, local_compact_law, local_realloc_law}
use Rattle.w16_laws.proofs.local.local_calls_discard_fewest.Goals as goal

pub returns-clause-alloc : goal.returns-clause-alloc
returns-clause-alloc c = local_alloc_law

pub returns-clause-realloc : goal.returns-clause-realloc
returns-clause-realloc c = local_realloc_law

pub returns-clause-compact : goal.returns-clause-compact
returns-clause-compact c = local_compact_law
