use Rattle.w16_loading.proofs.Begun.{empty_law}
use Rattle.w16_laws.proofs.loading.nothing_loaded_is_a_world.Goals as goal

pub returns : goal.returns
returns c = empty_law
