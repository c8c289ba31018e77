use Rattle.w16_script.proofs.PrintLemmas as M
use Rattle.std.proofs.lemmas.Result.{on_ok_weaker, on_err_weaker}
use Rattle.w16_script.proofs.WriteLemmas.{on_err}
use Rattle.w16_script.proofs.print.print_digits.Goals as goal

pub pieces-init : goal.pieces-init
pieces-init g c = record { printed = M.PrintedTo-none }

pub pieces-preserved : goal.pieces-preserved
pieces-preserved g c =
    let parts = M.split-at _ _ _ 1024 c.split_at.ensures.front c.split_at.ensures.back in
    record { printed = M.PrintedTo-more _ _ _ _ _ _ c.pieces.invariant.printed _ _ parts c.digits_of.ensures c.in_ok-write_whole.ensures.ok }

pub returns-in_err-write_whole-clause-err : goal.returns-in_err-write_whole-clause-err
returns-in_err-write_whole-clause-err g c =
    let parts = M.split-at _ _ _ 1024 c.split_at.ensures.front c.split_at.ensures.back in
    on_err c.from_residual.result (M.PrintedTo-fails _ _ _ _ _ _ c.pieces.invariant.printed _ _ parts c.digits_of.ensures c.in_err-write_whole.ensures.err)

pub returns-clause-ok : goal.returns-clause-ok
returns-clause-ok g c = on_ok_weaker c.write_whole-2.result (λ appends. M.PrintedTo-end _ _ _ _ _ _ c.pieces.invariant.printed c.last_digits.ensures appends) c.write_whole-2.ensures.ok

pub returns-clause-err : goal.returns-clause-err
returns-clause-err g c = on_err_weaker c.write_whole-2.result (λ front. M.PrintedTo-end_fails _ _ _ _ _ _ c.pieces.invariant.printed c.last_digits.ensures front) c.write_whole-2.ensures.err
