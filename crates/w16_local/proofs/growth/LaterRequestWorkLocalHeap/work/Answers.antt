use Rattle.w16_local.proofs.Requests.{later_may, later_served}
use Rattle.w16_local.proofs.growth.LaterRequestWorkLocalHeap.work.Goals as goal

pub operate-requires : goal.operate-requires
operate-requires g c = later_may c.args.self.now.request c.operation-operation.ensures _ c.requires.may c.set_end.ensures.value c.set_end.ensures.heap c.set_end.ensures.long

pub returns-clause-done : goal.returns-clause-done
returns-clause-done g c =
    later_served c.args.self.now.request c.operation-operation.ensures _ c.requires.may c.set_end.ensures.value c.set_end.ensures.heap c.set_end.ensures.long c.set_end.ensures.outside c.operate.ensures.acted _ _ _ c.set_end.ensures.written c.operate.ensures.written
