use Rattle.w16_blocks.proofs
use proofs.Common as C
use proofs.Common.{◌≡◌, ◌+◌, arith, sym, ap, ◌∙◌, subst, Block, Range}
use proofs.{Step.lies, Step.grained_known, After.length_after}
use Rattle.w16_blocks.proofs.Blocks.free_after.Goals as goal

pub overflow_add-block : goal.overflow_add-block
overflow_add-block g c =
    let end = (lies c.args.self.now c.args.id c.block_of-block.result c.block_of-block.ensures.known c.block_of-block.ensures.ordered).2 in
    let small = c.block_of-block.ensures.ordered.small in record { fits = omega arith }

pub at-requires-clause-place : goal.at-requires-clause-place
at-requires-clause-place g c =
    let l = c.args.self.now in let block = c.block_of-block.result in
    let inside = lies l c.args.id block c.block_of-block.ensures.known c.block_of-block.ensures.ordered in let from = inside.0 in
    let grained = grained_known l c.args.id block c.block_of-block.ensures.known c.block_of-block.ensures.ordered in
    subst (λ r. C.IsPlace r (block.at + block.size)) (sym (c.self.invariant.0.ranged ∙ ap C.range_of c.self.view_is)) (record { from = omega arith; to = inside.2; grained = C.multiple_sum l.grain block.at block.size grained.0 grained.1 })

pub returns-clause-value : goal.returns-clause-value
returns-clause-value g c =
    let l = c.args.self.now in let block = c.block_of-block.result in
    subst (λ o. C.IfSome o (λ b. c.at.result ≡ C.hole_after l.hi l.blocks (C.block_end b))) (sym c.block_of-block.ensures.known)
    (c.at.ensures ∙ ap (C.length_at _) (c.self.invariant.0.between ∙ ap C.holes_of c.self.view_is) ∙ length_after l.lo l.hi c.args.id block l.blocks c.block_of-block.ensures.ordered.laid c.block_of-block.ensures.known)
