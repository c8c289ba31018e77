use Rattle.w16_laws.proofs.machine.runs_keep_worlds.Goals as goal
use Rattle.w16_laws.proofs.Runs.{run_files_law, run_world_law}

pub returns-clause-worlds : goal.returns-clause-worlds
returns-clause-worlds g c = run_world_law _

pub returns-clause-files : goal.returns-clause-files
returns-clause-files g c = run_files_law _
