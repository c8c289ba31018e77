use Rattle.w16_kernel.proofs.Common.{handle_of, HasOneWalk, walk_law}
use Rattle.w16_kernel.proofs.step.part_count.Goals as goal

pub returns : goal.returns
returns g c = let walk : HasOneWalk handle_of c.args.global.now.handles.heap = walk_law handle_of c.args.global.now.handles.heap c.reveal_handles.ensures.heap in
    (walk.items, walk.is_walk, c.walk_len.ensures walk.items walk.is_walk)
