use Rattle.std.proofs.{Common.rules, lemmas.List.append_assoc, lemmas.Result.IfOk-equal}
use Rattle.json.specs.Print.{escape_byte}
use Rattle.w16_show.proofs.json_segments.push_by_ordinal.Goals as goal

pub returns : goal.returns
unfolding escape_byte
returns c = λ file. rw (← c.reference_name.ensures) (search (rules, IfOk-equal, append_assoc))
