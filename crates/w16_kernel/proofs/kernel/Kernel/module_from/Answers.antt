use Rattle.w16_kernel.proofs.Asked.{first_module}
use Rattle.w16_kernel.proofs.kernel.Kernel.module_from.Goals as goal

pub returns : goal.returns
returns g c = rw (← c.self.view_is, ← c.self-inside.view_is, ← c.self-inside-inside.view_is)
    (first_module _ (rw (← c.self-inside.view_is, ← c.self-inside-inside.view_is) at c.self.invariant).0.loading c.args.from c.first_from.result
    c.first_from.ensures.found c.first_from.ensures.lowest c.first_from.ensures.none)
