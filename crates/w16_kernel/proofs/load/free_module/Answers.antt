use Rattle.w16_kernel.proofs.{Common.refl, Modules.seen}
use Rattle.w16_kernel.proofs.load.free_module.Goals as goal

pub returns-clause-frees : goal.returns-clause-frees
returns-clause-frees g c = rw (← c.loading.view_is, c.sweep_resources.ensures) (record { left = _; ended = c.free-answer.ensures.ends (seen c.loading.view_is); after = refl })

pub returns-clause-unread : goal.returns-clause-unread
returns-clause-unread g c = rw (← c.loading.view_is, c.sweep_resources.ensures) (refl, refl)
