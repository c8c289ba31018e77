use Rattle.w16_kernel.proofs.kernel.Kernel.why_local.Goals as goal

pub returns-clause-holds : goal.returns-clause-holds
returns-clause-holds g c = rw (← c.self.view_is, ← c.self-inside.view_is, ← c.self-inside-inside.view_is) c.why_name.ensures.holds

pub returns-clause-there : goal.returns-clause-there
returns-clause-there g c = rw (← c.self.view_is, ← c.self-inside.view_is, ← c.self-inside-inside.view_is) c.why_name.ensures.there
