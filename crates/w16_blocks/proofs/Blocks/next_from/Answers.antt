use Rattle.w16_blocks.proofs.Common.{◌∙◌, ap, sym, slice_get, rank}
use Rattle.w16_blocks.proofs.Walk.{first_at}
use Rattle.w16_blocks.proofs.Blocks.next_from.Goals as goal

pub returns-in-Some-clause-value : goal.returns-in-Some-clause-value
returns-in-Some-clause-value g c =
    let l = c.args.self.now in let is = c.in-Some.ensures.value in
    sym (ap (λ at. slice_get l.blocks (rank at l.blocks)) (sym is.0) ∙ first_at l.lo l.hi _ _ c.in-Some.ensures.ordered.laid is.1)
