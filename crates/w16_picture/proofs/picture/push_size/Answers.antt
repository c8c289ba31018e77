use Rattle.std.proofs.{Common.rules, lemmas.List.append_assoc}
use Rattle.w16_picture.specs.Picture.{size_text}
use Rattle.w16_picture.proofs.picture.push_size.Goals as goal

pub returns : goal.returns
unfolding size_text
returns c = search (rules, append_assoc)
