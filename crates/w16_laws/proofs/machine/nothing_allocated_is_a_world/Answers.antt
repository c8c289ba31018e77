use Rattle.w16_machine.proofs.Worlds.{empty_world_law}
use Rattle.w16_laws.proofs.machine.nothing_allocated_is_a_world.Goals as goal

pub returns : goal.returns
returns c = empty_world_law
