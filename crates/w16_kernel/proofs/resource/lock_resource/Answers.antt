use Rattle.w16_loading.proofs.Requests.{step_fills}
use Rattle.w16_kernel.proofs.resource.lock_resource.Goals as goal

pub returns-clause-step : goal.returns-clause-step
returns-clause-step g c = rw c.dword_reply.ensures.told (step_fills _ _ _ _ _ (c.lock_resource.ensures.step c.requires))
