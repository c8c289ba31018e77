use Rattle.w16_ne.proofs
use proofs.Common.{◌≡◌, ◌≤◌, ◌∙◌, arith, err_from_is_err_and, All-push, file_of, Block, block_at, blocks_from}
use proofs.Blocks.{end_of, goes_on, stops, is_done, past_the_end, block_ends}
use proofs.{Until.fails_on, Pieces.failure_is}
use Rattle.w16_ne.proofs.resource_blocks.blocks_before.Goals as goal

pub returns-in_err-piece-clause-exact : goal.returns-in_err-piece-clause-exact
returns-in_err-piece-clause-exact g c = λ honest known.
    let p = err_from_is_err_and c.from_residual.result c.from_residual.ensures.1 in
    let file = file_of (g.S.Store.files c.args.store.now) c.args.name.now in
    rw (p.1, p.2) (failure_is file _ _ _ _ (blocks_from file c.args.len c.args.at) (omega arith) (c.in_err-piece.ensures.exact honest known))

pub returns-in_err-block_of-clause-exact : goal.returns-in_err-block_of-clause-exact
returns-in_err-block_of-clause-exact g c = λ honest known.
    let file = file_of (g.S.Store.files c.args.store.now) c.args.name.now in
    let p = err_from_is_err_and c.from_residual-in_err-block_of.result c.from_residual-in_err-block_of.ensures.1 in
    let said = rw c.loop.invariant.0 at c.in_err-block_of.ensures.exact honest (c.loop.invariant.3 honest known) in
    rw (p.1, p.2) (fails_on file _ _ _ c.in_err-block_of.field-0.0 (block_at file c.loop.place) (blocks_from file c.args.len c.args.at) c.loop.invariant.1 said
    (λ e. stops file c.loop.blocks.items c.args.len c.loop.counter c.loop.place _ _ c.loop-test.true e (c.loop.invariant.4 honest known)))

pub returns-in-None-clause-exact : goal.returns-in-None-clause-exact
returns-in-None-clause-exact g c = λ honest known.
    let file = file_of (g.S.Store.files c.args.store.now) c.args.name.now in
    let said = rw (c.loop.invariant.0, c.in-None.is) at c.in_ok-block_of.ensures.exact honest (c.loop.invariant.3 honest known) in
    is_done file c.loop.blocks.items c.args.len c.loop.counter c.loop.place _ c.loop-test.true said (c.loop.invariant.4 honest known)

pub loop-preserved : goal.loop-preserved
loop-preserved g c = (
  c.in_ok-block_of.ensures.stays.same ∙ c.loop.invariant.0,
  omega (arith, c.loop.invariant.1, c.in_ok-block_of.ensures.stays.counted),
  rw c.in_ok-push-in-Some.ensures.items (All-push (λ b. end_of b ≤ c.args.len) c.loop.blocks.items c.in-Some.found c.loop.invariant.2 (rw c.in-Some.is at c.in_ok-block_of.ensures.ends)),
  λ honest known. rw c.loop.invariant.0 at c.in_ok-block_of.ensures.kept honest (c.loop.invariant.3 honest known),
  λ honest known.
      let file = file_of (g.S.Store.files c.args.store.now) c.args.name.now in
      let said = rw (c.loop.invariant.0, c.in-Some.is) at c.in_ok-block_of.ensures.exact honest (c.loop.invariant.3 honest known) in
      let ends = block_ends file c.args.len c.loop.place c.in-Some.found known said in
      let sum = c.saturating_add-place.ensures in
      let fits = c.ranges.len.fits in
      let twelve = c.from.ensures in
      let next : c.saturating_add-place.result ≡ end_of c.in-Some.found = omega (arith, sum, fits, twelve, ends) in
      rw (c.in_ok-push-in-Some.ensures.items, next) (goes_on file c.loop.blocks.items c.args.len c.loop.counter c.loop.place c.in-Some.found _ c.loop-test.true said (c.loop.invariant.4 honest known)),
)

pub returns-then-place-len-clause-exact : goal.returns-then-place-len-clause-exact
returns-then-place-len-clause-exact g c = λ honest known.
    let file = file_of (g.S.Store.files c.args.store.now) c.args.name.now in
    stops file c.loop.blocks.items c.args.len c.loop.counter c.loop.place _ _ c.loop-test.true (past_the_end file c.args.len c.loop.place known c.if-place-len.true) (c.loop.invariant.4 honest known)
