use Rattle.w16_model.proofs.Sound.{sound_law}
use Rattle.w16_laws.proofs.model.sound_table_stands_for_a_heap.Goals as goal

pub returns : goal.returns
returns c = sound_law
