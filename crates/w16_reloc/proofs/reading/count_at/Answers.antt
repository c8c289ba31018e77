use Rattle.w16_reloc.proofs.Common.{rules, records_at}
use Rattle.w16_reloc.proofs.reading.count_at.Goals as goal

pub returns-then-flags-eq0-clause-exact : goal.returns-then-flags-eq0-clause-exact
unfolding records_at
returns-then-flags-eq0-clause-exact g c = search rules

pub returns-in_err-read-clause-exact : goal.returns-in_err-read-clause-exact
unfolding records_at
returns-in_err-read-clause-exact g c = search rules

pub returns-clause-exact : goal.returns-clause-exact
unfolding records_at
returns-clause-exact g c = search rules
