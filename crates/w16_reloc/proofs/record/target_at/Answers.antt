use Rattle.w16_reloc.proofs.Common.{rules, target_at}
use Rattle.w16_reloc.proofs.record.target_at.Goals as goal

pub returns-else-kind-eq0 : goal.returns-else-kind-eq0
unfolding target_at
returns-else-kind-eq0 c = search rules
