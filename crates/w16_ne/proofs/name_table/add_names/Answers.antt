use Rattle.w16_ne.proofs
use proofs.Common.{◌≡◌, ◌+◌, ◌∙◌, [], ◌∷◌, ◌++◌, refl, arith, subst, err_from_is_err_and, file_of, Entry, found_in, name_at, names_from, size, IsListing}
use proofs.Pieces.{failure_is}
use proofs.Until.{fails_on, goes_on, stops, is_done, past_the_end, entry_ends, found_long}
use Rattle.w16_ne.proofs.name_table.add_names.Goals as goal

pub returns-in_err-piece-clause-exact : goal.returns-in_err-piece-clause-exact
returns-in_err-piece-clause-exact g c = λ before honest known begun.
    let file = file_of (g.S.Store.files c.args.store.now) c.args.name.now in
    let p = err_from_is_err_and c.from_residual.result c.from_residual.ensures.1 in
    rw (p.1, p.2) (failure_is file _ _ _ _ (names_from file c.args.len c.args.at) (omega arith) (c.in_err-piece.ensures.exact honest known))

pub returns-then-place-len-clause-exact : goal.returns-then-place-len-clause-exact
returns-then-place-len-clause-exact g c = λ before honest known begun.
    let file = file_of (g.S.Store.files c.args.store.now) c.args.name.now in
    let l = c.loop.invariant.3 before honest known begun in
    stops file l.0 c.args.len c.loop.counter c.loop.place _ _ c.loop-test.true (past_the_end file c.args.len c.loop.place known c.if-place-len.true) l.2

pub returns-in_err-name_of-clause-exact : goal.returns-in_err-name_of-clause-exact
returns-in_err-name_of-clause-exact g c = λ before honest known begun.
    let file = file_of (g.S.Store.files c.args.store.now) c.args.name.now in
    let l = c.loop.invariant.3 before honest known begun in
    let p = err_from_is_err_and c.from_residual-in_err-name_of.result c.from_residual-in_err-name_of.ensures.1 in
    let read = rw c.loop.invariant.0 at c.in_err-name_of.ensures.exact in
    let said = read honest known (c.loop.invariant.2 honest known) in
    rw (p.1, p.2) (fails_on file _ _ _ c.in_err-name_of.field-0.0 (name_at file c.loop.place) (names_from file c.args.len c.args.at) c.loop.invariant.1 said
    (λ e. stops file l.0 c.args.len c.loop.counter c.loop.place _ _ c.loop-test.true e l.2))

pub returns-in-None-clause-exact : goal.returns-in-None-clause-exact
returns-in-None-clause-exact g c = λ before honest known begun.
    let file = file_of (g.S.Store.files c.args.store.now) c.args.name.now in
    let l = c.loop.invariant.3 before honest known begun in
    let read = rw (c.loop.invariant.0, c.in-None.is) at c.in_ok-name_of.ensures.exact in
    let said = read honest known (c.loop.invariant.2 honest known) in
    (l.0, is_done file l.0 c.args.len c.loop.counter c.loop.place _ c.loop-test.true said l.2, l.1)

pub loop-preserved : goal.loop-preserved
loop-preserved g c = (
  c.in_ok-name_of.ensures.stays.same ∙ c.loop.invariant.0,
  omega (arith, c.loop.invariant.1, c.in_ok-name_of.ensures.stays.counted),
  λ honest known. (let kept = rw c.loop.invariant.0 at c.in_ok-name_of.ensures.kept in kept honest known (c.loop.invariant.2 honest known)),
  λ before honest known begun.
      let file = file_of (g.S.Store.files c.args.store.now) c.args.name.now in
      let l = c.loop.invariant.3 before honest known begun in
      let read = rw (c.loop.invariant.0, c.in-Some.is) at c.in_ok-name_of.ensures.exact in
      let said = read honest known (c.loop.invariant.2 honest known) in
      let found = c.in-Some.found in
      let bytes = c.name_of.new.piece.bytes.items in
      let x = found_in bytes found in
      let inside = rw c.in-Some.is at c.in_ok-name_of.ensures.inside in
      let long = found_long bytes found inside in
      let ends = entry_ends file c.args.len c.loop.place x known said in
      let next : c.saturating_add-place.result ≡ c.loop.place + size x = omega (arith, c.saturating_add-place.ensures, c.from.ensures, c.ranges.len.fits, long, ends) in
      let entry : (c.part-text.result.now, found.ordinal) ≡ x = rw (c.part-text.ensures.value, c.as_slice.ensures.value, c.from-in-Some.ensures) refl in (
        l.0 ++ x ∷ [],
        subst (λ e. IsListing before (l.0 ++ e ∷ []) c.add.new.self) entry (c.in_ok-add-in-Some.ensures.ok before l.0 l.1),
        rw next (goes_on file l.0 c.args.len c.loop.counter c.loop.place x _ c.loop-test.true said l.2),
      ),
)
