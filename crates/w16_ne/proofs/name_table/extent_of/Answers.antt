use Rattle.w16_ne.proofs
use proofs.Until as M
use proofs.Common.{◌≡◌, ◌+◌, ◌∙◌, arith, err_from_is_err_and, file_of, found_in, name_at, names_from, size}
use proofs.Pieces.{failure_is}
use Rattle.w16_ne.specs.declared.fault.NeFault.TheVariants as faults
use Rattle.w16_ne.proofs.name_table.extent_of.Goals as goal

pub returns-in_err-piece-clause-exact : goal.returns-in_err-piece-clause-exact
returns-in_err-piece-clause-exact g c = λ honest known.
    let file = file_of (g.S.Store.files c.args.store.now) c.args.name.now in
    let p = err_from_is_err_and c.from_residual.result c.from_residual.ensures.1 in
    rw (p.1, p.2) (failure_is file _ _ _ _ (names_from file c.args.len c.args.at) (omega arith) (c.in_err-piece.ensures.exact honest known))

pub returns-then-place-len-clause-exact : goal.returns-then-place-len-clause-exact
returns-then-place-len-clause-exact g c = λ honest known.
    let file = file_of (g.S.Store.files c.args.store.now) c.args.name.now in
    c.loop.invariant.3 honest known faults.Truncated (M.err_now file c.args.len c.loop.counter c.loop.place faults.Truncated c.loop-test.true (M.past_the_end file c.args.len c.loop.place known c.if-place-len.true))

pub returns-in_err-name_of-clause-exact : goal.returns-in_err-name_of-clause-exact
returns-in_err-name_of-clause-exact g c = λ honest known.
    let file = file_of (g.S.Store.files c.args.store.now) c.args.name.now in
    let p = err_from_is_err_and c.from_residual-in_err-name_of.result c.from_residual-in_err-name_of.ensures.1 in
    let read = rw c.loop.invariant.0 at c.in_err-name_of.ensures.exact in
    let said = read honest known (c.loop.invariant.2 honest known) in
    rw (p.1, p.2) (M.fails_on file _ _ _ c.in_err-name_of.field-0.0 (name_at file c.loop.place) (names_from file c.args.len c.args.at) c.loop.invariant.1 said
    (λ e. c.loop.invariant.3 honest known _ (M.err_now file c.args.len c.loop.counter c.loop.place _ c.loop-test.true e)))

pub loop-preserved : goal.loop-preserved
loop-preserved g c = (
  c.in_ok-name_of.ensures.stays.same ∙ c.loop.invariant.0,
  omega (arith, c.loop.invariant.1, c.in_ok-name_of.ensures.stays.counted),
  λ honest known. (let kept = rw c.loop.invariant.0 at c.in_ok-name_of.ensures.kept in kept honest known (c.loop.invariant.2 honest known)),
  λ honest known e later.
      let file = file_of (g.S.Store.files c.args.store.now) c.args.name.now in
      let read = rw (c.loop.invariant.0, c.in-Some.is) at c.in_ok-name_of.ensures.exact in
      let said = read honest known (c.loop.invariant.2 honest known) in
      let x = found_in c.name_of.new.piece.bytes.items c.in-Some.found in
      let inside = rw c.in-Some.is at c.in_ok-name_of.ensures.inside in
      let long = M.found_long c.name_of.new.piece.bytes.items c.in-Some.found inside in
      let ends = M.entry_ends file c.args.len c.loop.place x known said in
      let next : c.saturating_add-place.result ≡ c.loop.place + size x = omega (arith, c.saturating_add-place.ensures, c.from.ensures, c.ranges.len.fits, long, ends) in
      c.loop.invariant.3 honest known e (M.err_later file c.args.len c.loop.counter c.loop.place x e c.loop-test.true said (rw next at later)),
)

pub returns-clause-exact : goal.returns-clause-exact
returns-clause-exact g c = λ honest known.
    let file = file_of (g.S.Store.files c.args.store.now) c.args.name.now in
    c.loop.invariant.3 honest known faults.Truncated (M.err_over file c.args.len c.loop.counter c.loop.place c.loop-test.false)
