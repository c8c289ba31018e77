use Rattle.std.proofs.{Common.rules, lemmas.List.append_assoc, lemmas.Result.IfOk-equal}
use Rattle.w16_show.proofs.Characters.{escaped_characters}
use Rattle.w16_show.proofs.json_values.push_text.Goals as goal

pub returns : goal.returns
returns c = rw (← (escaped_characters c.args.bytes.now)) (search (rules, IfOk-equal, append_assoc))
