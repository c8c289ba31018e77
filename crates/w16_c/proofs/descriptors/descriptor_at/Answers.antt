use Rattle.std.proofs.Common.{◌≡◌, ◌∙◌, None, Some, ap, subst}
use Rattle.w16_global.specs.Peek.{selector_descriptor}
use Rattle.w16_c.specs.Descriptors.{descriptor_at, descriptor_or_none}
use Rattle.w16_c.proofs.descriptors.descriptor_at.Goals as goal

pub returns-in-Some : goal.returns-in-Some
unfolding descriptor_at
returns-in-Some c = c.in_c.ensures ∙ ap descriptor_or_none (subst (λ s. Some c.in-Some.told ≡ selector_descriptor c.args.kernel.now.loading.handles s) c.selector_of.ensures c.in-Some.ensures)

pub returns-in-None : goal.returns-in-None
unfolding descriptor_at
returns-in-None c = ap descriptor_or_none (subst (λ s. None ≡ selector_descriptor c.args.kernel.now.loading.handles s) c.selector_of.ensures c.in-None.ensures)
