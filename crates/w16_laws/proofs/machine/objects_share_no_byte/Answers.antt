use Rattle.w16_machine.proofs.Apart.{apart_law}
use Rattle.w16_laws.proofs.machine.objects_share_no_byte.Goals as goal

pub returns : goal.returns
returns c = apart_law
