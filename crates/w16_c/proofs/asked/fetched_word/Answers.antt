use Rattle.w16_c.proofs.ReplyKinds.{fetches, of_kind}
use Rattle.w16_c.proofs.Roomless.{roomless}
use Rattle.w16_machine.specs.Rows.ReplyKind.{FetchedWord}
use Rattle.w16_c.proofs.asked.fetched_word.Goals as goal

pub word_told-requires : goal.word_told-requires
word_told-requires c = of_kind _ _ _ _ FetchedWord c.requires.kind c.in-Ok.ensures.made.step

pub returns-in-Ok : goal.returns-in-Ok
returns-in-Ok c = fetches _ _ _ _ _ _ _ _ c.word_told.ensures c.in-Ok.ensures.made

pub asked-requires-clause-room : goal.asked-requires-clause-room
asked-requires-clause-room c = roomless c.args.call.now FetchedWord c.requires.kind (λ e. cc)
