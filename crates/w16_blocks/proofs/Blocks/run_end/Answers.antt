use Rattle.std.proofs.Common.{arith, ◌≢◌, inl, inr}
use Rattle.w16_blocks.proofs.{Tagged.known_by, Tagged.all_by, Sliding.run_more, Sliding.ends_below, Step.lies}
use Rattle.w16_blocks.proofs.Blocks.run_end.Goals as goal

pub returns-clause-last : goal.returns-clause-last
returns-clause-last g c = let high = c.loop-end.invariant.high in let past = c.loop-end-test.false in inl (omega arith)

pub returns-in_default-clause-last : goal.returns-in_default-clause-last
returns-in_default-clause-last g c = inr (all_by (λ b. b.at ≢ c.loop-end.end) c.self.view_is c.deref.ensures.value c.deref-in-loop-end.ensures.value c.in_default.ensures)

pub overflow_add-end : goal.overflow_add-end
overflow_add-end g c =
    let known = known_by c.in-Some.block c.self.view_is c.deref.ensures.value c.deref-in-loop-end.ensures.value c.in-Some.ensures.1 in
    let end = (lies c.args.self.now c.in-Some.block.id c.in-Some.block known c.bounds-bounds.ensures.ordered).2 in
    let here = c.in-Some.ensures.0 in let small = c.bounds-bounds.ensures.ordered.small in record { fits = omega arith }

pub loop-end-smaller : goal.loop-end-smaller
loop-end-smaller g c =
    let known = known_by _ c.self.view_is c.deref.ensures.value c.deref-in-loop-end.ensures.value c.in-Some.ensures.1 in
    let some = (lies c.args.self.now c.in-Some.block.id c.in-Some.block known c.bounds-bounds.ensures.ordered).1 in let lt = c.loop-end-test.true in omega arith

pub loop-end-preserved : goal.loop-end-preserved
loop-end-preserved g c =
    let l = c.args.self.now in let x = c.in-Some.block in let here = c.in-Some.ensures.0 in let lt = c.loop-end-test.true in
    let known = known_by c.in-Some.block c.self.view_is c.deref.ensures.value c.deref-in-loop-end.ensures.value c.in-Some.ensures.1 in
    let end = ends_below l c.args.high x known c.requires.whole.1 (omega arith) in
    record { run = run_more l c.args.from c.loop-end.end x c.bounds-bounds.ensures.ordered known here c.loop-end.invariant.run; high = omega arith }
