use Rattle.w16_machine.proofs.ReplyKinds.{reply_kind_law}
use Rattle.w16_laws.proofs.machine.replies_are_of_their_kinds.Goals as goal

pub returns : goal.returns
returns g c = reply_kind_law _
