use Rattle.w16_model.proofs.Fewest.{global_alloc_law, global_compact_law}
use Rattle.w16_laws.proofs.model.calls_discard_fewest.Goals as goal

pub returns-clause-alloc : goal.returns-clause-alloc
returns-clause-alloc c = global_alloc_law

pub returns-clause-compact : goal.returns-clause-compact
returns-clause-compact c = global_compact_law
