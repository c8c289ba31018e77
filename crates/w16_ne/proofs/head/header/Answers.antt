use Rattle.w16_ne.proofs.Common.{rules, header_at}
use Rattle.w16_ne.proofs.head.header.Goals as goal

pub returns-in_err-read_or-2-clause-exact : goal.returns-in_err-read_or-2-clause-exact
unfolding header_at
returns-in_err-read_or-2-clause-exact g c = search rules
