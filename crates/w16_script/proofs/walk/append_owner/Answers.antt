use Rattle.w16_script.proofs.Common.{◌≤◌, length, length-append, ap, arith, decimal, length-decimal-le, on_ok_weaker}
use Rattle.w16_script.proofs.walk.append_owner.Goals as goal

pub returns-clause-short : goal.returns-clause-short
returns-clause-short c =
    let digits : length (decimal c.args.owner.locks) ≤ 3 = length-decimal-le 3 c.args.owner.locks (omega arith) (omega arith) (omega arith) in
    on_ok_weaker c.write.result (λ e. omega (arith, digits, ap length e, length-append c.append-3.new.text.items (decimal c.args.owner.locks))) c.write.ensures.bytes
