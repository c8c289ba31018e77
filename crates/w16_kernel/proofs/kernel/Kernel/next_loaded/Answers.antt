use Rattle.w16_kernel.proofs.kernel.Kernel.next_loaded.Goals as goal

pub returns-clause-next : goal.returns-clause-next
returns-clause-next g c = rw (← c.self.view_is, ← c.self-inside.view_is, ← c.self-inside-inside.view_is) c.end_of_way.ensures.next
