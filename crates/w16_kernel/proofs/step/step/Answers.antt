use Rattle.w16_kernel.proofs.{Common.◌≤◌, Common.length, Common.length-take-le, Common.subst, Common.world_of, Modules.seen, Stepping.local_step, Stepping.wanted_at}
use Rattle.w16_kernel.specs.Runs.{HasRoom, command_of}
use Rattle.w16_kernel.proofs.step.step.Goals as goal

pub returns-in-Read-clause-step : goal.returns-in-Read-clause-step
returns-in-Read-clause-step g c =
    let few : c.in-Read.count ≤ length c.args.room.now = subst (λ k. HasRoom k (length c.args.room.now)) c.in-Read.is c.requires.room in
    rw c.in-Read.is (rw (length-take-le c.in-Read.count c.args.room.now few) at c.read.ensures.step)

pub returns-in-Write-clause-step : goal.returns-in-Write-clause-step
returns-in-Write-clause-step g c = rw c.in-Write.is c.write.ensures.step

pub returns-in-Fill-clause-step : goal.returns-in-Fill-clause-step
returns-in-Fill-clause-step g c = rw c.in-Fill.is c.write-in-Fill.ensures.step

pub returns-in-LocalInit-clause-step : goal.returns-in-LocalInit-clause-step
returns-in-LocalInit-clause-step g c =
    let w = world_of (seen c.loading.view_is) c.parts.inside.locals c.parts.inside.ds in
    rw (← c.parts.view_is, ← c.loading.view_is) (local_step g.S.Store.is_honest _ _ (command_of c.args.call.now) _ c.local_reply.ensures.step w)

pub returns-in-LocalInit-clause-wanted : goal.returns-in-LocalInit-clause-wanted
returns-in-LocalInit-clause-wanted g c =
    let w = world_of (seen c.loading.view_is) c.parts.inside.locals c.parts.inside.ds in
    rw (← c.parts.view_is, ← c.loading.view_is) (wanted_at _ _ c.local_reply.ensures.wanted w)

pub returns-in-Builtin-clause-wanted : goal.returns-in-Builtin-clause-wanted
returns-in-Builtin-clause-wanted g c = wanted_at _ _ c.module_reply.ensures.wanted c.args.parts.now

pub returns-in-Fill-clause-ranged : goal.returns-in-Fill-clause-ranged
returns-in-Fill-clause-ranged g c = rw c.in-Fill.is c.reveal_byte.ensures
