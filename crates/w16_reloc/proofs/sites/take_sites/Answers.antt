use Rattle.w16_reloc.proofs.Common.{rules, sites_at}
use Rattle.w16_reloc.proofs.sites.take_sites.Goals as goal

pub returns-in-Added-clause-step : goal.returns-in-Added-clause-step
unfolding sites_at
returns-in-Added-clause-step c = search rules
