use Rattle.w16_script.proofs.RegisterLemmas.{begins_r, one_byte, two_bytes, BeginsWith-one, BeginsWith-two, no_digits, no_zero, no_third}
use Rattle.w16_script.proofs.registers.split_register.Goals as goal

pub returns-in_default-split_digit-clause-found : goal.returns-in_default-split_digit-clause-found
returns-in_default-split_digit-clause-found c =
    let (small, digit) = c.in_ok-first.ensures.found in
    BeginsWith-one c.args.text.now c.in_ok-first.rest.now c.in_ok-first.first small (one_byte c.in-Some-eq114-default.ensures.cases.0 c.in-Some-eq114-default.field-0-0-test digit) c.in_default-split_digit.ensures.none

pub returns-then-first-eq0-clause-none : goal.returns-then-first-eq0-clause-none
returns-then-first-eq0-clause-none c = λ r rest begins.
    let (small_too, digit_too) = c.in-Some.ensures.found in
    no_zero c.in-Some.behind.now c.in_ok-first.first c.in-Some.second (two_bytes c.in-Some-eq114-default.ensures.cases.0 c.in-Some-eq114-default.field-0-0-test c.in_ok-first.ensures.found.1 digit_too) small_too c.if-first-eq0.true begins

pub returns-in-Some-split_digit-clause-none : goal.returns-in-Some-split_digit-clause-none
returns-in-Some-split_digit-clause-none c = λ r rest begins.
    let (small_too, digit_too) = c.in-Some.ensures.found in
    let (third, digit_third) = c.in-Some-split_digit.ensures.found in
    no_third c.in-Some.behind.now _ c.in_ok-first.first c.in-Some.second _ (two_bytes c.in-Some-eq114-default.ensures.cases.0 c.in-Some-eq114-default.field-0-0-test c.in_ok-first.ensures.found.1 digit_too) small_too digit_third third begins

pub returns-in-None-clause-found : goal.returns-in-None-clause-found
returns-in-None-clause-found c =
    let (small, digit) = c.in_ok-first.ensures.found in
    let (small_too, digit_too) = c.in-Some.ensures.found in
    BeginsWith-two c.args.text.now c.in-Some.behind.now c.in_ok-first.first c.in-Some.second small small_too c.if-first-eq0.false (two_bytes c.in-Some-eq114-default.ensures.cases.0 c.in-Some-eq114-default.field-0-0-test digit digit_too) c.in-None.ensures.none

pub returns-in_err-first-clause-none : goal.returns-in_err-first-clause-none
returns-in_err-first-clause-none c = rw c.from_residual.ensures (λ r rest begins. no_digits c.in-Some-eq114-default.name.now (begins_r c.in-Some-eq114-default.ensures.cases.0 c.in-Some-eq114-default.field-0-0-test) c.in_err-first.ensures.none begins)
