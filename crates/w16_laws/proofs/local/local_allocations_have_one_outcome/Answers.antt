use Rattle.w16_laws.proofs.{LocalOneGrowth.one_growth_law, LocalRefusals.outcome_law}
use Rattle.w16_laws.proofs.local.local_allocations_have_one_outcome.Goals as goal

pub returns-clause-outcome : goal.returns-clause-outcome
returns-clause-outcome c = outcome_law

pub returns-clause-growth : goal.returns-clause-growth
returns-clause-growth c = one_growth_law
