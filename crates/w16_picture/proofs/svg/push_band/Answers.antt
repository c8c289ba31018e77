use Rattle.std.proofs.{Common.rules, lemmas.List.append_assoc, lemmas.Result.IfOk-equal}
use Rattle.w16_picture.specs.Svg.{band_text}
use Rattle.w16_picture.proofs.svg.push_band.Goals as goal

pub returns : goal.returns
unfolding band_text
returns c = search (rules, IfOk-equal, append_assoc)
