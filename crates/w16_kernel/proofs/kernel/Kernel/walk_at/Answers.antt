use Rattle.w16_kernel.proofs.Common.{handle_of, walk_law}
use Rattle.w16_kernel.proofs.kernel.Kernel.walk_at.Goals as goal

pub returns : goal.returns
returns g c = rw (← c.self.view_is, ← c.self-inside.view_is, ← c.self-inside-inside.view_is)
    (let walk = walk_law handle_of _ c.reveal_handles.ensures.heap in (walk.items, walk.is_walk, c.walk.ensures walk.items walk.is_walk))
