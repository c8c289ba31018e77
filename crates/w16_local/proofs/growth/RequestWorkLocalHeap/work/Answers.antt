use Rattle.w16_local.proofs.{Common.arith, Requests.request_done, Requests.request_refused}
use Rattle.w16_local.proofs.growth.RequestWorkLocalHeap.work.Goals as goal

pub longer_size-requires-clause-refused : goal.longer_size-requires-clause-refused
longer_size-requires-clause-refused g c =
    request_refused c.args.self.now c.operation.ensures c.requires.may c.operate-answer.ensures.acted c.operate-answer.ensures.long c.reveal_local.ensures c.reveal_bytes.ensures (let none = c.if-answer-ne0.false in omega (arith, none))

pub returns-clause-done : goal.returns-clause-done
returns-clause-done g c =
    request_done c.args.self.now c.operation.ensures c.requires.may c.operate-answer.ensures.acted c.operate-answer.ensures.long c.reveal_local.ensures c.reveal_bytes.ensures (let none = c.if-answer-ne0.false in omega (arith, none))
    c.longer_size.result c.longer_size.ensures _ _ c.operate-answer.ensures.written
