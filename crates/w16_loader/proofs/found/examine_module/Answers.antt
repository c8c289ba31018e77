-- A module whose name nothing has is new where its relocations are sound and a handle is left.
use Rattle.w16_loader.proofs.Common as C
use Rattle.w16_loader.proofs.Common.{tables_in, refl, inl, inr, [], ap, sym, ◌∙◌, arith, meant_in}
use Rattle.w16_loader.proofs.Values.{fault_so}
use Rattle.w16_loader.proofs.found.examine_module.Goals as goal

pub returns-in-Some-clause-makes : goal.returns-in-Some-clause-makes
returns-in-Some-clause-makes g c = λ says.
    let meant = sym (c.in-Some.ensures []) in
    (tables_in c.args.read, says, ap (λ n. meant_in c.args.registry.now c.args.found.now n) (sym c.name.ensures) ∙ meant)

pub returns-in-Ok-clause-makes : goal.returns-in-Ok-clause-makes
returns-in-Ok-clause-makes g c = λ says.
    let none = sym (c.in-None.ensures []) in
    (c.in-Ok.ensures.checked says, ap (λ n. meant_in c.args.registry.now c.args.found.now n) (sym c.name.ensures) ∙ none, omega (arith, c.free_count.ensures, c.if-found-free_count.true))

pub returns-in-Ok-2-clause-makes : goal.returns-in-Ok-2-clause-makes
returns-in-Ok-2-clause-makes g c = λ says.
    let none = ap (λ n. meant_in c.args.registry.now c.args.found.now n) (sym c.name.ensures) ∙ sym (c.in-None.ensures []) in
    inr (tables_in c.args.read, says, none, inr ((c.in-Ok.ensures.checked says).1, omega (arith, c.free_count.ensures, c.if-found-free_count.false, C.length-map c.args.found.now (C.found_in [])), refl))

pub returns-in-Err-clause-makes : goal.returns-in-Err-clause-makes
returns-in-Err-clause-makes g c = λ says.
    let none = ap (λ n. meant_in c.args.registry.now c.args.found.now n) (sym c.name.ensures) ∙ sym (c.in-None.ensures []) in
    fault_so (λ refusal h. inr (tables_in c.args.read, says, none, inl h)) _ _ _ c.in-Err.fault (omega arith) (c.in-Err.ensures.checked says)
