use Rattle.w16_kernel.proofs.Common.{World, ap, arith, ◌∙◌}
use Rattle.w16_model.specs.Request.{most_room}
use Rattle.w16_resource.proofs.Given.{rounded_up}
use Rattle.w16_kernel.proofs.kernel.Kernel.lacks_room.Goals as goal

pub returns-then-most-size-clause-most : goal.returns-then-most-size-clause-most
returns-then-most-size-clause-most g c =
    (c.in_ok-most.ensures.most ∙ ap (λ (w : World). most_room w.loading.handles.heap) ((λ i. (c.self-inside.view_is i).parts) ∙ c.self.view_is), grind (arith, rounded_up c.args.size))

pub returns-else-most-size-clause-none : goal.returns-else-most-size-clause-none
returns-else-most-size-clause-none g c = λ unmoved.
    let most = c.in_ok-most.ensures.most ∙ ap (λ (w : World). most_room w.loading.handles.heap) ((λ i. (c.self-inside.view_is i).parts) ∙ c.self.view_is) in
    let past = c.if-most-size.false in
    omega (arith, most, past)
