use Rattle.w16_format.proofs.Samples.{samples}
use Rattle.w16_format.proofs.laws.samples_are_read_and_relocated.Goals as goal

pub returns : goal.returns
returns c = samples
