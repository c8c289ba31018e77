use Rattle.w16_ne.proofs.Common.{◌^◌, ◌∙◌, map, sym, err_from_is_err_and, are_placed, entry_in}
use Rattle.w16_ne.proofs.{Until.told_on, Places.row_goes, Places.row_stops}
use Rattle.w16_ne.proofs.resource_table.test_places.Goals as goal

pub returns-in_err-test_place-clause-exact : goal.returns-in_err-test_place-clause-exact
returns-in_err-test_place-clause-exact c = λ file texts known.
    let p = err_from_is_err_and c.from_residual.result c.from_residual.ensures.1 in
    let total = are_placed file (2 ^ c.args.shift) (map (entry_in texts c.args.shift) c.args.rows.now) in
    rw (p.1, p.2) (told_on c.in_err-test_place.field-0.0 _ total (c.in_err-test_place.ensures.exact file texts known)
    (λ e. sym (c.loop-row.invariant file texts known) ∙ row_stops file (2 ^ c.args.shift) c.args.shift texts c.args.rows.now c.loop-row.row-index _ c.loop-row-test.true _ e))

pub loop-row-preserved : goal.loop-row-preserved
loop-row-preserved c = λ file texts known.
    row_goes file (2 ^ c.args.shift) c.args.shift texts c.args.rows.now c.loop-row.row-index _ c.loop-row-test.true (c.in_ok-test_place.ensures.exact file texts known) ∙ c.loop-row.invariant file texts known
