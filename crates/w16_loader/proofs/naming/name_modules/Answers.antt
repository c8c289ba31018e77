-- The handles are free and differ, so the modules of the closure get them.
use Rattle.w16_loader.proofs.Common.{◌≡◌, ◌≢◌, ◌≤◌, [], All, AllPairs, length, get_or, map, sym, ap, ◌∙◌, subst, arith, IsFreeModule, free_modules, with_handles, pair_of, in_world, err_from_is_err_and, GetNames, imports_among, unbound_by}
use Rattle.w16_loader.proofs.{FreeHandles.lowest_free, FreeHandles.lowest_apart, NameSteps.as_many, Namings.unbound_named}
use Rattle.w16_loader.proofs.naming.name_modules.Goals as goal

pub name_all-requires-clause-free : goal.name_all-requires-clause-free
name_all-requires-clause-free g c = subst (All (IsFreeModule _)) (sym c.as_slice-3.ensures.value) (lowest_free c.args.registry.now _ c.in_ok-handles.handles.items c.in_ok-handles.ensures.lowest)

pub name_all-requires-clause-apart : goal.name_all-requires-clause-apart
name_all-requires-clause-apart g c = subst (AllPairs ◌≢◌) (sym c.as_slice-3.ensures.value) (lowest_apart c.args.registry.now _ c.in_ok-handles.handles.items c.in_ok-handles.ensures.lowest)

pub name_all-requires-clause-imports : goal.name_all-requires-clause-imports
name_all-requires-clause-imports g c =
    let few : c.len.result ≤ free_modules c.args.registry.now = omega (arith, c.len.ensures, c.requires) in
    omega (arith, c.in_ok-imports.ensures.many, ap length c.as_slice-2.ensures.value, c.in_ok-handles.ensures.many few, c.len.ensures)

pub returns-in_err-handles-clause-fault : goal.returns-in_err-handles-clause-fault
returns-in_err-handles-clause-fault g c = let p = err_from_is_err_and c.from_residual.result c.from_residual.ensures.1 in rw (p.1, p.2) (λ meant is. tt)

pub returns-in_err-name_all-clause-fault : goal.returns-in_err-name_all-clause-fault
returns-in_err-name_all-clause-fault g c =
    let p = err_from_is_err_and c.from_residual-in_err-name_all.result c.from_residual-in_err-name_all.ensures.1 in
    rw (p.1, p.2) (λ meant is. c.in_err-name_all.ensures.fault meant.found is.found)

pub returns-clause-named : goal.returns-clause-named
returns-clause-named g c = λ rest meant is.
    let few : c.len.result ≤ free_modules c.args.registry.now = omega (arith, c.len.ensures, c.requires) in
    let many = c.in_ok-handles.ensures.many few in
    let found = as_many c.args.closure.found.items meant.found is.found in
    let same : length c.in_ok-handles.handles.items ≡ length meant.found = omega (arith, many, found, c.len.ensures) in
    unbound_named (in_world (with_handles rest _) _) (in_world (with_handles rest _) _) meant c.in_ok-handles.handles.items
    (λ p. get_or (map (λ v. v.items) c.in_ok-imports.imports.items) p []) same (lowest_free _ _ _ c.in_ok-handles.ensures.lowest) (lowest_apart c.args.registry.now _ _ c.in_ok-handles.ensures.lowest)
    (λ p lt. c.in_ok-imports.ensures.imports p (omega (arith, lt, same, ap length c.as_slice-2.ensures.value))
    ∙ ap (λ hs. imports_among hs (map pair_of c.as_slice.result.now) p) c.as_slice-2.ensures.value
    ∙ ap (λ bs. imports_among c.in_ok-handles.handles.items (map pair_of bs) p) c.as_slice.ensures.value
    ∙ ap (λ bs. imports_among c.in_ok-handles.handles.items bs p) (sym is.bound))
    (subst (λ hs. GetNames (in_world (with_handles rest c.args.global.now.handles) c.args.registry.now) (unbound_by (λ p. get_or (map (λ v. v.items) c.in_ok-imports.imports.items) p [])) meant.found hs
    (in_world (with_handles rest c.name_all.new.global.handles) c.name_all.new.registry)) c.as_slice-3.ensures.value (c.in_ok-name_all.ensures.named rest _ is.found))
