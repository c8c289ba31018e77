-- What isn't bound or filled is a load that is undone.
use Rattle.w16_loader.proofs
use proofs.Common.{fold, slice_index_or, sym, subst, arith, Says, without_module, with_handles, AreSaid, Answer, LoadingWorld, LoadsHeld, IfOk, load_answer, refusal_of, refused_by, in_world, ◌∙◌}
use proofs.Closed.{failure_by, taken_back}
use proofs.HeldLoads.{filled_held, unbound_held, unfilled_held}
use Rattle.w16_loader.proofs.loading.bind_and_fill.Goals as goal

pub returns-in-Err-clause-given : goal.returns-in-Err-clause-given
returns-in-Err-clause-given g c = λ rest old meant start le is accepted us.
    unbound_held _ _ start
    _ old meant _
    _ us is accepted
    _ c.in-Err.ensures.values c.in-Err.ensures.others _
    le _ c.in-Err.ensures.read c.in-Err.ensures.device c.in-Err.ensures.faults

pub returns-in-Err-clause-undone : goal.returns-in-Err-clause-undone
returns-in-Err-clause-undone g c = λ rest old meant is u none.
    taken_back old meant _ _ u _ c.in-Err.ensures.values c.in-Err.ensures.others is

pub returns-in-Ok-fill_modules-clause-given : goal.returns-in-Ok-fill_modules-clause-given
returns-in-Ok-fill_modules-clause-given g c = λ rest old meant start le is accepted us.
    let bound = c.in-Ok.ensures.any in
    subst (λ h. LoadsHeld g.S.Store.is_honest (g.S.Store.files c.args.store.now) start (g.S.Store.failures c.fill_modules.new.store) old meant (Says (slice_index_or c.args.handles.now 0 0)) (in_world (with_handles rest h) c.bind_modules.new.registry)) (sym c.in-Ok-fill_modules.ensures.rest)
    (filled_held _ _ start
    _ old meant _
    _ us is accepted
    _ bound.0 bound.1 bound.2 bound.3
    _ (omega (arith, le, c.in-Ok.ensures.stays.counted)) _
    (λ reads are its empty. c.in-Ok-fill_modules.ensures.given reads are
    (λ honest. (subst (λ fs. AreSaid fs c.bind_modules.new.registry c.args.handles.now reads) (sym c.in-Ok.ensures.stays.same) (its honest).0, (its honest).1)) empty))

pub returns-in-Err-fill_modules-clause-given : goal.returns-in-Err-fill_modules-clause-given
returns-in-Err-fill_modules-clause-given g c = λ rest old meant start le is accepted us.
    let bound = c.in-Ok.ensures.any in
    let failure = c.in-Err-fill_modules.failure in
    let new = fold without_module (in_world (with_handles rest c.fill_modules.new.global.handles) c.bind_modules.new.registry) c.args.handles.now in
    let Loads = λ (answer : Answer) (new : LoadingWorld). LoadsHeld g.S.Store.is_honest (g.S.Store.files c.args.store.now) start (g.S.Store.failures c.fill_modules.new.store) old meant answer new in
    subst (λ fault. IfOk (refused_by fault) (λ answer. Loads (load_answer answer) new)) (sym c.fault_of_failure.ensures.fault)
    (failure_by (λ answer. Loads answer new) failure.place failure.fault
    (subst (λ h. Loads (refusal_of failure.place failure.fault) (fold without_module (in_world (with_handles rest h) c.bind_modules.new.registry) c.args.handles.now)) (sym c.in-Err-fill_modules.ensures.rest)
    (unfilled_held _ _ start
    _ old meant _
    _ us is accepted
    _ bound.0 bound.1 bound.2 bound.3
    _ (omega (arith, le, c.in-Ok.ensures.stays.counted)) _ _ _
    (λ reads are its empty. c.in-Err-fill_modules.ensures.given reads are
    (λ honest. (subst (λ fs. AreSaid fs c.bind_modules.new.registry c.args.handles.now reads) (sym c.in-Ok.ensures.stays.same) (its honest).0, (its honest).1)) empty))))

pub returns-in-Err-fill_modules-clause-device : goal.returns-in-Err-fill_modules-clause-device
returns-in-Err-fill_modules-clause-device g c = λ e.
    let lt = c.in-Err-fill_modules.ensures.device (sym c.fault_of_failure.ensures.device ∙ e) in omega (arith, lt, c.in-Ok.ensures.stays.counted)

pub returns-in-Err-fill_modules-clause-undone : goal.returns-in-Err-fill_modules-clause-undone
returns-in-Err-fill_modules-clause-undone g c = λ rest old meant is u none. absurd (c.fault_of_failure.ensures.memory none)

pub returns-in-Err-fill_modules-clause-written : goal.returns-in-Err-fill_modules-clause-written
returns-in-Err-fill_modules-clause-written g c = λ none. absurd (c.fault_of_failure.ensures.memory none)
