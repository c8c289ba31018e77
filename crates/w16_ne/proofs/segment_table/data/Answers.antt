use Rattle.w16_ne.proofs.Common.{rules, data_at}
use Rattle.w16_ne.proofs.segment_table.data.Goals as goal

pub returns-in_err-records-clause-exact : goal.returns-in_err-records-clause-exact
unfolding data_at
returns-in_err-records-clause-exact g c = search rules

pub returns-clause-exact : goal.returns-clause-exact
unfolding data_at
returns-clause-exact g c = search rules
