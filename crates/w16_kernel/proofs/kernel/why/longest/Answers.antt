use Rattle.w16_kernel.proofs.Common.{LoadingWorld, ap, arith, common_steps, refl, ◌∙◌}
use Rattle.w16_model.specs.Request.{most_room}
use Rattle.w16_kernel.proofs.Whys.{unasked}
use Rattle.w16_kernel.proofs.kernel.why.longest.Goals as goal

pub returns-clause-same : goal.returns-clause-same
returns-clause-same g c = rw (← c.loading.view_is, unasked _ _ _ (grind (arith, common_steps)) c.global_compact.ensures.step) refl

pub returns-clause-most : goal.returns-clause-most
returns-clause-most g c = c.global_compact.ensures.step.compacted.0 ∙ ap (λ (w : LoadingWorld). most_room w.handles.heap) c.loading.view_is
