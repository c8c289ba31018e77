use Rattle.w16_blocks.proofs.Common.{◌≡◌, [], ◌∷◌, length, Option, MatchOption, arith, sym, ap, subst, Block, rank, from_address}
use Rattle.w16_blocks.proofs.Walk.{none_left, one_more, ends_small}
use Rattle.w16_blocks.proofs.by_address.ByAddressIterator.next.Goals as goal

pub returns-in_err-block-clause-steps : goal.returns-in_err-block-clause-steps
returns-in_err-block-clause-steps g c =
    let bs = c.args.self.now.blocks.now.blocks in let at = c.args.self.now.from in
    let none = none_left bs (rank at bs) c.in_err-block.ensures.value in
    subst (λ o. MatchOption o ((from_address at bs ≡ []) × (from_address at bs ≡ [])) (λ x. from_address at bs ≡ x ∷ from_address at bs)) (sym c.from_residual.ensures) (none, none)

pub overflow_add-self : goal.overflow_add-self
overflow_add-self g c =
    let end = ends_small c.args.self.now.blocks.now c.args.self.now.from c.in_ok-block.block c.in_ok-block.ensures.ordered c.in_ok-block.ensures.value in
    let small = c.in_ok-block.ensures.ordered.small in record { fits = omega arith }

pub returns-clause-steps : goal.returns-clause-steps
returns-clause-steps g c =
    let l = c.args.self.now.blocks.now in one_more l.lo l.hi c.args.self.now.from _ l.blocks c.in_ok-block.ensures.ordered.laid c.in_ok-block.ensures.value

pub returns-clause-goes : goal.returns-clause-goes
returns-clause-goes g c =
    let l = c.args.self.now.blocks.now in
    let steps = one_more l.lo l.hi c.args.self.now.from c.in_ok-block.block l.blocks c.in_ok-block.ensures.ordered.laid c.in_ok-block.ensures.value in
    let fewer = ap (length {A = Block}) steps in
    record {
      on = λ finite. (c.requires, tt, omega (arith, fewer));
      keeps = c.requires;
      rests = λ finite. tt;
    }
