use Rattle.w16_region.proofs.Common.{rules, word_in}
use Rattle.w16_region.proofs.region.Region.word_at.Goals as goal

pub returns : goal.returns
unfolding word_in
returns g c = search rules
