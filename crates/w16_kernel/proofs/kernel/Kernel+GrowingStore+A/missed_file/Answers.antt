use Rattle.w16_kernel.proofs.kernel.Kernel+GrowingStore+A.missed_file.Goals as goal

pub returns : goal.returns
returns g c = rw (← c.self.view_is, ← c.self-inside.view_is, ← c.self-inside-inside.view_is) c.missed.ensures.absent
