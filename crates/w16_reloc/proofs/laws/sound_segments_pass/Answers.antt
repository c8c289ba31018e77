use Rattle.w16_reloc.proofs.SoundLemmas.{passed_is_sound, sound_passes}
use Rattle.w16_reloc.proofs.laws.sound_segments_pass.Goals as goal

pub returns-clause-passed : goal.returns-clause-passed
returns-clause-passed c = passed_is_sound

pub returns-clause-sound : goal.returns-clause-sound
returns-clause-sound c = sound_passes
