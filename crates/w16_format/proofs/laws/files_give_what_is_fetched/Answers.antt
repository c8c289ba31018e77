use Rattle.w16_format.proofs.Fetched.{sound_law, segment_given, resource_given}
use Rattle.w16_format.proofs.laws.files_give_what_is_fetched.Goals as goal

pub returns-clause-sound : goal.returns-clause-sound
returns-clause-sound c = sound_law

pub returns-clause-segments : goal.returns-clause-segments
returns-clause-segments c = segment_given

pub returns-clause-resources : goal.returns-clause-resources
returns-clause-resources c = resource_given
