use Rattle.w16_model.proofs.Bystanders.{bystanders_law, pinned_law}
use Rattle.w16_laws.proofs.model.calls_keep_bystanders.Goals as goal
use Rattle.w16_laws.proofs.Bystanders.{attributes_law, still_law}

pub returns-clause-objects : goal.returns-clause-objects
returns-clause-objects c = bystanders_law

pub returns-clause-attributes : goal.returns-clause-attributes
returns-clause-attributes c = attributes_law

pub returns-clause-pinned : goal.returns-clause-pinned
returns-clause-pinned c = pinned_law

pub returns-clause-still : goal.returns-clause-still
returns-clause-still c = still_law
