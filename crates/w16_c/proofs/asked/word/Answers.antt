use Rattle.w16_c.proofs.{ReplyKinds.of_kind, Roomless.roomless}
use Rattle.w16_machine.specs.Rows.ReplyKind.{AWord}
use Rattle.w16_c.proofs.asked.word.Goals as goal

pub word_in-requires : goal.word_in-requires
word_in-requires c = of_kind _ _ _ _ AWord c.requires.kind c.in-Ok.ensures.made.step

pub asked-requires-clause-room : goal.asked-requires-clause-room
asked-requires-clause-room c = roomless c.args.call.now AWord c.requires.kind (λ e. cc)
