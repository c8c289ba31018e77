use Rattle.w16_script.proofs.ReadingLemmas.{Reads-one}
use Rattle.w16_script.proofs.laws.one_reading.Goals as goal

pub returns : goal.returns
returns c = Reads-one
