use Rattle.w16_model.proofs.{Empty.empty_law, ResizedHandles.handle_law}
use Rattle.w16_laws.proofs.model.steps_keep_handles.Goals as goal
use Rattle.w16_laws.proofs.FarAccesses.{far_law}

pub returns-clause-begin : goal.returns-clause-begin
returns-clause-begin c = empty_law

pub returns-clause-calls : goal.returns-clause-calls
returns-clause-calls c = handle_law

pub returns-clause-accesses : goal.returns-clause-accesses
returns-clause-accesses c = far_law
