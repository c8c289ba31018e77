use Rattle.w16_reloc.proofs.OneImage.{one_image}
use Rattle.w16_reloc.proofs.laws.fetches_are_equal.Goals as goal

pub returns : goal.returns
returns c = one_image
