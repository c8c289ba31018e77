use Rattle.w16_c.proofs.ReplyKinds.{done_calls, of_kind}
use Rattle.w16_c.proofs.Roomless.{roomless}
use Rattle.w16_machine.specs.Rows.ReplyKind.{OnlyDone}
use Rattle.w16_c.proofs.asked.done.Goals as goal

pub written-requires : goal.written-requires
written-requires c = of_kind _ _ _ _ OnlyDone c.requires.kind c.in-Ok.ensures.made.step

pub returns-in-Ok : goal.returns-in-Ok
returns-in-Ok c = done_calls _ _ _ _ _ c.written.ensures c.in-Ok.ensures.made

pub asked-requires-clause-room : goal.asked-requires-clause-room
asked-requires-clause-room c = roomless c.args.call.now OnlyDone c.requires.kind (λ e. cc)
