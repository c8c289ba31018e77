use Rattle.w16_ne.proofs
use proofs.Common.{◌≡◌, ◌+◌, length, length-append, sym, ◌∙◌, arith, slice_index, err_from_is_err_and}
use proofs.Bundles.{here, goes_on, stops, is_refused, is_done, bundle-length}
use proofs.Until.{told_on}
use Rattle.w16_ne.proofs.entry_table.entries_of.Goals as goal

pub returns-then-is_end-clause-exact : goal.returns-then-is_end-clause-exact
returns-then-is_end-clause-exact g c =
    let table = c.args.table.now in
    is_done table c.args.segments c.loop.entries.items (length table) c.loop.counter c.loop.at _ c.loop-test.true (sym c.is_end.ensures.end ∙ c.if-is_end.true) c.loop.invariant.2

pub returns-then-is_bad-clause-exact : goal.returns-then-is_bad-clause-exact
returns-then-is_bad-clause-exact g c =
    let table = c.args.table.now in
    let held : c.len.result ≡ length c.loop.entries.items = omega (arith, c.len.ensures) in
    let bad = rw held at c.is_bad.ensures.bad in
    is_refused table c.args.segments c.loop.entries.items (length table) c.loop.counter c.loop.at _ c.loop-test.true (sym c.is_end.ensures.end ∙ c.if-is_end.false) (sym bad ∙ c.if-is_bad.true) c.loop.invariant.2

pub returns-in_err-bundle-clause-exact : goal.returns-in_err-bundle-clause-exact
returns-in_err-bundle-clause-exact g c =
    let table = c.args.table.now in
    let held : c.len.result ≡ length c.loop.entries.items = omega (arith, c.len.ensures) in
    let sound = rw held at c.is_bad.ensures.bad in
    let p = err_from_is_err_and c.from_residual.result c.from_residual.ensures.1 in
    rw (p.1, p.2) (told_on _ (here table c.args.segments c.loop.at) _ c.in_err-bundle.ensures
    (λ e. stops table c.args.segments c.loop.entries.items (length table) c.loop.counter c.loop.at _ _ c.loop-test.true (sym c.is_end.ensures.end ∙ c.if-is_end.false) (sym sound ∙ c.if-is_bad.false) e c.loop.invariant.2))

pub loop-preserved : goal.loop-preserved
loop-preserved g c =
    let table = c.args.table.now in
    let at = c.loop.at in
    let front = c.loop.entries.items in
    let held : c.len.result ≡ length c.loop.entries.items = omega (arith, c.len.ensures) in
    let sound = rw held at c.is_bad.ensures.bad in
    let few = rw held at (c.is_bad.ensures.few c.if-is_bad.false) in
    let xs = c.in_ok-bundle.bundle.items in
    let long = bundle-length table c.args.segments (slice_index table (at + 1)) (slice_index table at) (at + 2) xs c.in_ok-bundle.ensures in
    let items = c.in_ok-append.ensures.items in (
      rw c.end_of-at.ensures (c.is_bad.ensures.inside c.if-is_bad.false),
      rw (items, length-append front xs, long) few,
      rw (items, length-append front xs, long, c.end_of-at.ensures) (goes_on table c.args.segments front (length table) c.loop.counter at xs _ c.loop-test.true (sym c.is_end.ensures.end ∙ c.if-is_end.false) (sym sound ∙ c.if-is_bad.false) c.in_ok-bundle.ensures c.loop.invariant.2),
    )
