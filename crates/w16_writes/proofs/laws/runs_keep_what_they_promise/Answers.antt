use Rattle.w16_writes.proofs.Promises.{run_promises_law}
use Rattle.w16_writes.proofs.laws.runs_keep_what_they_promise.Goals as goal

pub returns : goal.returns
returns g c = run_promises_law _
