use Rattle.w16_writes.proofs.{Runs.reads_back_law, Promises.run_promises_law}
use Rattle.w16_writes.proofs.laws.runs_read_back.Goals as goal

pub returns-clause-steps : goal.returns-clause-steps
returns-clause-steps g c format old new events is known run = (run_promises_law g.S.Store.is_honest format old new events is known run).written

pub returns-clause-reads : goal.returns-clause-reads
returns-clause-reads g c = reads_back_law
