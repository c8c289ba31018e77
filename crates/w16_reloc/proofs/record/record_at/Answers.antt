use Rattle.w16_reloc.proofs.Common.{rules, record_at}
use Rattle.w16_reloc.proofs.record.record_at.Goals as goal

pub returns-in_err-part : goal.returns-in_err-part
unfolding record_at
returns-in_err-part c = search rules

pub returns : goal.returns
unfolding record_at
returns c = search rules
