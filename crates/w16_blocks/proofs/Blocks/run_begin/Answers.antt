use Rattle.w16_blocks.proofs.Common.{◌≡◌, ◌+◌, ◌≤◌, ◌⊎◌, arith, inl, inr, block_end}
use Rattle.w16_blocks.proofs.{Rising.run_before, Rising.none_ends, Rising.none_ends_low, Remove.each_with, Step.lies}
use Rattle.w16_blocks.proofs.Blocks.run_begin.Goals as goal

pub returns-in_default-clause-first : goal.returns-in_default-clause-first
returns-in_default-clause-first g c = inr (none_ends_low c.args.self.now _ c.in_default.ensures.ordered c.in_default.ensures.value)

pub overflow_add-block : goal.overflow_add-block
overflow_add-block g c =
    let is = c.in-Some.ensures.value in
    let end = (lies c.args.self.now c.in-Some.block.id c.in-Some.block is.known c.in-Some.ensures.ordered).2 in let small = c.in-Some.ensures.ordered.small in
    record { fits = omega arith }

pub returns-then-block-begin-clause-first : goal.returns-then-block-begin-clause-first
returns-then-block-begin-clause-first g c = inr (none_ends c.args.self.now _ c.in-Some.block c.in-Some.ensures.ordered c.in-Some.ensures.value c.if-block-begin.true)

pub loop-begin-preserved : goal.loop-begin-preserved
loop-begin-preserved g c =
    let l = c.args.self.now in let x = c.in-Some.block in let is = c.in-Some.ensures.value in let inv = c.loop-begin.invariant in
    let below = is.below in let not_less = c.if-block-begin.false in let low = c.loop-begin-test.true in
    let ends : x.at + x.size ≡ c.loop-begin.begin = elim (each_with (λ b. (block_end b ≤ c.loop-begin.begin) ⊎ (c.loop-begin.begin ≤ b.at)) x.id x l.blocks is.known inv.run.whole.0) [
      | inl under ↦ omega arith
      | inr over ↦ absurd (omega arith)
    ] in
    record {
      run = run_before l _ _ x c.in-Some.ensures.ordered is.known ends inv.run;
      low = elim (each_with (λ b. (block_end b ≤ c.args.low) ⊎ (c.args.low ≤ b.at)) x.id x l.blocks is.known c.requires.whole.0) [
        | inl under ↦ absurd (omega arith)
        | inr over ↦ over
      ];
    }
