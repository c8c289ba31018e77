use Rattle.std.proofs.{Common.rules, lemmas.List.append_assoc}
use Rattle.w16_picture.specs.Svg.{box_text}
use Rattle.w16_picture.proofs.svg.push_box.Goals as goal

pub returns : goal.returns
unfolding box_text
returns c = search (rules, append_assoc)
