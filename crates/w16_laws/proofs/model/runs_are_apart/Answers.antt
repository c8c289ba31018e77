use Rattle.w16_model.proofs.{Runs.reach_law}
use Rattle.w16_laws.proofs.Selectors.{selectors_law, owner_law}
use Rattle.w16_laws.proofs.model.runs_are_apart.Goals as goal

pub returns-clause-owner : goal.returns-clause-owner
returns-clause-owner c = owner_law

pub returns-clause-reach : goal.returns-clause-reach
returns-clause-reach c = reach_law

pub returns-clause-selectors : goal.returns-clause-selectors
returns-clause-selectors c = selectors_law
