use Rattle.w16_laws.proofs.CallLaws.{moved_law}
use Rattle.w16_laws.proofs.model.moved_bytes_are_counted.Goals as goal

pub returns : goal.returns
returns c = moved_law
