use Rattle.std.proofs.{Common.rules, lemmas.List.append_assoc, lemmas.Result.IfOk-equal}
use Rattle.w16_show.specs.Text.{memory_words, segment_words}
use Rattle.w16_show.proofs.segments.push_words.Goals as goal

pub returns : goal.returns
unfolding segment_words memory_words
returns c = search (rules, IfOk-equal, append_assoc)
