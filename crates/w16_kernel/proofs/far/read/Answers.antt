use Rattle.w16_kernel.proofs.Lent.{read_back}
use Rattle.w16_kernel.proofs.far.read.Goals as goal

pub returns-clause-step : goal.returns-clause-step
returns-clause-step g c = read_back _ _ c.args.pointer _ c.parts.view_is c.in-Ok.place _ c.copy_found.ensures c.in-Ok.ensures.found.0.step
