use Rattle.w16_format.proofs.Relocated.{is_relocated, relocated_law, words_same}
use Rattle.w16_format.proofs.Files.{has_room}
use Rattle.w16_format.proofs.laws.segments_are_relocated.Goals as goal

pub returns-clause-segments : goal.returns-clause-segments
returns-clause-segments c = is_relocated

pub returns-clause-words : goal.returns-clause-words
returns-clause-words c = words_same

pub returns-clause-room : goal.returns-clause-room
returns-clause-room c = has_room

pub returns-clause-relocated : goal.returns-clause-relocated
returns-clause-relocated c = relocated_law
