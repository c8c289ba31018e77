use Rattle.w16_machine.proofs.Worlds.{files_law, world_law}
use Rattle.w16_laws.proofs.machine.steps_keep_worlds.Goals as goal

pub returns-clause-worlds : goal.returns-clause-worlds
returns-clause-worlds g c = world_law _

pub returns-clause-files : goal.returns-clause-files
returns-clause-files g c = files_law _
