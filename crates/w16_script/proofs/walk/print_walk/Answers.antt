use Rattle.w16_script.proofs.WriteLemmas.{on_err}
use Rattle.std.proofs.lemmas.Result.{on_ok_weaker, on_err_weaker}
use Rattle.w16_script.proofs.WalkLemmas.{none_printed, item_printed, item_fails, walk_printed, end_fails}
use Rattle.w16_script.proofs.walk.print_walk.Goals as goal

pub items-init : goal.items-init
items-init g c = record { printed = λ items walk. none_printed _ items }

pub returns-in_err-print_item-clause-err : goal.returns-in_err-print_item-clause-err
returns-in_err-print_item-clause-err g c =
    let (items, walk) = c.walk_from.ensures.whole in
    on_err c.from_residual.result (items, walk, item_fails _ _ _ walk _ _ _ (c.items.invariant.printed items walk) _ _ c.in-Some.ensures.found c.in_err-print_item.ensures.err)

pub items-preserved : goal.items-preserved
items-preserved g c = record {
  printed = λ items walk. item_printed _ _ _ walk _ _ _ (c.items.invariant.printed items walk) _ _ c.in-Some.ensures.found c.in-Some.ensures.inside.0 c.in-Some.ensures.apart c.in_ok-print_item.ensures.ok;
}

pub returns-clause-ok : goal.returns-clause-ok
returns-clause-ok g c =
    let (items, walk) = c.walk_from.ensures.whole in
    on_ok_weaker c.print_end.result (λ appends. (items, walk, walk_printed _ _ _ walk _ _ _ (c.items.invariant.printed items walk) _ c.in_default.ensures.found appends)) c.print_end.ensures.ok

pub returns-clause-err : goal.returns-clause-err
returns-clause-err g c =
    let (items, walk) = c.walk_from.ensures.whole in
    on_err_weaker c.print_end.result (λ front. (items, walk, end_fails _ _ _ walk _ _ _ (c.items.invariant.printed items walk) _ c.in_default.ensures.found front)) c.print_end.ensures.err
