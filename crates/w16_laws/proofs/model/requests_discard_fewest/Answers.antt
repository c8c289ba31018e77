use Rattle.w16_model.proofs.Fewest.{allocation_law, compaction_law}
use Rattle.w16_laws.proofs.model.requests_discard_fewest.Goals as goal

pub returns-clause-allocation : goal.returns-clause-allocation
returns-clause-allocation c = allocation_law

pub returns-clause-compaction : goal.returns-clause-compaction
returns-clause-compaction c = compaction_law
