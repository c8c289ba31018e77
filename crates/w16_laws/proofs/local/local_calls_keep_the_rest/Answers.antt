use Rattle.w16_machine.proofs.{LocalFrame.frame_law}
use Rattle.w16_laws.proofs.local.local_calls_keep_the_rest.Goals as goal
use Rattle.w16_laws.proofs.LocalHeaps.{growth_law}

pub returns-clause-rest : goal.returns-clause-rest
returns-clause-rest c = frame_law

pub returns-clause-growth : goal.returns-clause-growth
returns-clause-growth c = growth_law
