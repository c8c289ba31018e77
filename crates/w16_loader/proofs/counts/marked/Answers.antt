-- Nothing was marked before.
use Rattle.w16_loader.proofs.Common.{Bool, false, not, ◌==◌, ◌&&◌, ◌||◌, ap, ◌∙◌, is_member, get_or-replicate}
use Rattle.w16_loader.proofs.counts.marked.Goals as goal

pub returns : goal.returns
returns c = λ handle lt. c.mark.ensures handle lt ∙ ap (λ b. b || (not (c.args.importer == handle) && is_member handle c.args.imports.now)) (get_or-replicate {A = Bool} 233 handle false false lt)
