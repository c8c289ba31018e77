use Rattle.w16_script.proofs.Common.{arith, sym, ap, ◌∙◌, ◌≡◌, ◌+◌, ◌*◌, drop}
use Rattle.w16_script.proofs.NumberLemmas.{value_behind, value_behind-step, value_behind-whole, all_digits-step}
use Rattle.w16_script.proofs.number.digits.Goals as goal

-- The number so far is too large already, and no digit makes it smaller.
pub returns-in_err-checked_mul-clause-none : goal.returns-in_err-checked_mul-clause-none
returns-in_err-checked_mul-clause-none c = rw c.from_residual-in_err-checked_mul.ensures (λ n small reads.
    let grows = value_behind-whole c.args.base c.loop-byte.value c.in_ok-digit.digit c.loop-byte.byte-index c.args.text.now c.loop-byte-test.true c.in_ok-digit.ensures.found.0 n (omega arith) c.loop-byte.invariant.value reads.value in
    c.in_err-checked_mul.ensures (omega (arith, grows)))

pub returns-in_err-value-clause-none : goal.returns-in_err-value-clause-none
returns-in_err-value-clause-none c = rw c.from_residual-in_err-value.ensures (λ n small reads.
    let grows = value_behind-whole c.args.base c.loop-byte.value c.in_ok-digit.digit c.loop-byte.byte-index c.args.text.now c.loop-byte-test.true c.in_ok-digit.ensures.found.0 n (omega arith) c.loop-byte.invariant.value reads.value in
    c.in_err-value.ensures (omega (arith, grows, c.in_ok-checked_mul.ensures.1)))

pub loop-byte-preserved : goal.loop-byte-preserved
loop-byte-preserved c =
    let base = c.args.base in let d = c.in_ok-digit.digit in let i = c.loop-byte.byte-index in let xs = c.args.text.now in let e = c.in_ok-digit.ensures.found.0 in let old = c.loop-byte.value in
    let next : c.in_ok-value.value ≡ old * base + d = c.in_ok-value.ensures.1 ∙ ap (λ k. k + d) c.in_ok-checked_mul.ensures.1 in
    record {
      value = ap (λ v. value_behind base v (drop (i + 1) xs)) next ∙ sym (value_behind-step base old d i xs c.loop-byte-test.true e) ∙ c.loop-byte.invariant.value;
      digits = sym (all_digits-step base old d i xs c.loop-byte-test.true e c.in_ok-digit.ensures.found.1) ∙ c.loop-byte.invariant.digits;
    }
