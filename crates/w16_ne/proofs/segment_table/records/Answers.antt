use Rattle.w16_ne.proofs.Common.{rules, records_at}
use Rattle.w16_ne.proofs.segment_table.records.Goals as goal

pub returns-clause-exact : goal.returns-clause-exact
unfolding records_at
returns-clause-exact g c = search rules
