use Rattle.std.proofs.lemmas.Result.{on_err_weaker}
use Rattle.w16_script.proofs.Common.{arith, Appends-kept, Appends-nil, take_rest}
use Rattle.w16_script.proofs.WriteLemmas.{on_err, AppendsFront_take, AppendsFront_rest}
use Rattle.w16_script.proofs.write.write_few.Goals as goal

pub returns-in_err-count-clause-err : goal.returns-in_err-count-clause-err
returns-in_err-count-clause-err g c = on_err c.from_residual.result (AppendsFront_take 0 (omega (arith, c.requires)) (Appends-kept _ _ _ _ (Appends-nil _) c.in_err-count.ensures.err))

pub returns-clause-err : goal.returns-clause-err
returns-clause-err g c =
    let n = c.in_ok-count.count in
    on_err_weaker c.write_whole.result (λ front. AppendsFront_rest n c.in_ok-count.ensures.ok.1 (take_rest c.args.bytes.now n) front) c.write_whole.ensures.err
