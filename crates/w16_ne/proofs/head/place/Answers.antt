use Rattle.w16_ne.proofs.Common.{rules, place_at}
use Rattle.w16_ne.proofs.head.place.Goals as goal

pub returns-in_err-read_or-2-clause-exact : goal.returns-in_err-read_or-2-clause-exact
unfolding place_at
returns-in_err-read_or-2-clause-exact g c = search rules

pub returns-clause-exact : goal.returns-clause-exact
unfolding place_at
returns-clause-exact g c = search rules
