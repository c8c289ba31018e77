use Rattle.w16_script.proofs.PlainLemmas.{plain}
use Rattle.w16_script.proofs.laws.plain_bytes.Goals as goal

pub returns : goal.returns
returns c = plain
