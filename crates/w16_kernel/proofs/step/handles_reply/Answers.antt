use Rattle.w16_kernel.proofs.step.handles_reply.Goals as goal

pub returns-in-GlobalAlloc-clause-gives : goal.returns-in-GlobalAlloc-clause-gives
returns-in-GlobalAlloc-clause-gives g c = rw c.in-GlobalAlloc.is c.global_alloc.ensures.step
