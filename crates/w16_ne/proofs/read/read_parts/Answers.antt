use Rattle.w16_ne.proofs.Common.{rules}
use Rattle.w16_ne.specs.Parts.{parts_at}
use Rattle.w16_ne.proofs.read.read_parts.Goals as goal

pub returns-in_err-in_part-clause-part : goal.returns-in_err-in_part-clause-part
unfolding parts_at
returns-in_err-in_part-clause-part g c = search rules
