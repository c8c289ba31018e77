use Rattle.w16_kernel.proofs.Common.{on_any}
use Rattle.w16_kernel.proofs.step.local_reply.Goals as goal

pub returns-in_ok-local_init-in-LocalInit-clause-step : goal.returns-in_ok-local_init-in-LocalInit-clause-step
returns-in_ok-local_init-in-LocalInit-clause-step g c = λ rest. rw c.in-LocalInit.is (c.in_ok-local_init-in-LocalInit.ensures.step rest)

pub returns-in_err-local_init-in-LocalInit-clause-wanted : goal.returns-in_err-local_init-in-LocalInit-clause-wanted
returns-in_err-local_init-in-LocalInit-clause-wanted g c = on_any c.from_residual.result _ (λ rest. rw c.in-LocalInit.is (c.in_err-local_init-in-LocalInit.ensures.wanted rest))
