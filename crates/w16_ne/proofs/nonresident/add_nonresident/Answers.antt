use Rattle.w16_ne.proofs.Common.{rules, nonresident_at}
use Rattle.w16_ne.proofs.nonresident.add_nonresident.Goals as goal

pub returns-in_err-bytes-clause-exact : goal.returns-in_err-bytes-clause-exact
unfolding nonresident_at
returns-in_err-bytes-clause-exact g c = search rules

pub returns-clause-exact : goal.returns-clause-exact
unfolding nonresident_at
returns-clause-exact g c = search rules
