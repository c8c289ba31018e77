use Rattle.w16_loading.proofs.Bystanders.{bystanders_law, pinned_law}
use Rattle.w16_laws.proofs.loading.steps_keep_bystanders.Goals as goal

pub returns-clause-bystanders : goal.returns-clause-bystanders
returns-clause-bystanders g c = bystanders_law _

pub returns-clause-pinned : goal.returns-clause-pinned
returns-clause-pinned g c = pinned_law _
