use Rattle.w16_c.proofs.{ReplyKinds.of_kind, Roomless.roomless}
use Rattle.w16_machine.specs.Rows.ReplyKind.{ADword}
use Rattle.w16_c.proofs.asked.dword.Goals as goal

pub dword_in-requires : goal.dword_in-requires
dword_in-requires c = of_kind _ _ _ _ ADword c.requires.kind c.in-Ok.ensures.made.step

pub asked-requires-clause-room : goal.asked-requires-clause-room
asked-requires-clause-room c = roomless c.args.call.now ADword c.requires.kind (λ e. cc)
