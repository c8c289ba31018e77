-- A load that is done, and one that is undone.
use Rattle.w16_loader.proofs.Common.{◌≡◌, inl, [], false≢true, IfOk, OnErr, fold, slice_index_or, refl, sym, ap, ◌∙◌, subst, arith, without_module, Says, LoadAnswer, LoadingWorld, with_handles, closed_in, AreUnbound, LoadsHeld, load_answer, refused_by, IsUnbound, in_world}
use Rattle.w16_loader.proofs.{Closed.err_by, Closed.first_of, Closed.some_handles, NameSteps.naming_fault, NameSteps.same_global, HeldLoads.closure_alike, HeldLoads.is_closure, Holdings.held_alike}
use Rattle.std.specs.FinMap as finmap
use Rattle.w16_store.specs.Later.{RoseIf}
use Rattle.w16_loader.specs.Devices.{is_load_device}
use Rattle.w16_loader.proofs.loading.load_closure.Goals as goal

pub index-requires : goal.index-requires
index-requires g c =
    let rest : LoadingWorld = record { handles = c.args.global.now.handles; modules = c.args.registry.now; loads = finmap.empty; files = []; failures = 0 } in
    let some = some_handles c.args.closure rest (in_world (with_handles rest _) _) c.in-Ok.handles.items
    (c.in-Ok.ensures.named rest _ (is_closure [] _)) c.requires.some in
    omega (arith, some)

pub returns-in-Ok-bind_and_fill-clause-loads : goal.returns-in-Ok-bind_and_fill-clause-loads
returns-in-Ok-bind_and_fill-clause-loads g c = λ rest meant start le is accepted.
    let old = in_world (with_handles rest _) _ in
    let mid = in_world (with_handles rest _) _ in
    let us : AreUnbound old meant c.as_slice.result.now mid = λ found alike.
    subst (λ hs. IsUnbound old (record meant { found = found }) hs mid) (sym c.as_slice.ensures.value) (c.in-Ok.ensures.named rest (record meant { found = found }) (closure_alike _ meant found is alike)) in
    let some = some_handles c.args.closure old mid c.in-Ok.handles.items (c.in-Ok.ensures.named rest _ (is_closure [] _)) c.requires.some in
    let same = ap (λ hs. slice_index_or hs 0 0) c.as_slice.ensures.value ∙ first_of c.in-Ok.handles.items _ some c.index.ensures in
    subst (λ h. LoadsHeld g.S.Store.is_honest (g.S.Store.files c.args.store.now) start (g.S.Store.failures c.bind_and_fill.new.store) old meant (Says h) (in_world (with_handles rest c.bind_and_fill.new.global.handles) c.bind_and_fill.new.registry)) same
    (c.in-Ok-bind_and_fill.ensures.given rest old meant start le c.reveal_handles.ensures accepted us)

pub returns-clause-loads : goal.returns-clause-loads
returns-clause-loads g c = λ rest meant start le is accepted.
    let old = in_world (with_handles rest _) _ in
    let mid = in_world (with_handles rest _) _ in
    let us : AreUnbound old meant c.as_slice.result.now mid = λ found alike.
    subst (λ hs. IsUnbound old (record meant { found = found }) hs mid) (sym c.as_slice.ensures.value) (c.in-Ok.ensures.named rest (record meant { found = found }) (closure_alike _ meant found is alike)) in
    let given = in_world (with_handles rest _) c.bind_and_fill.new.registry in
    let gone = c.release_modules.ensures.gone rest ∙ ap (λ hs. fold without_module given hs) (c.as_slice-in-Err-bind_and_fill.ensures.value ∙ sym c.as_slice.ensures.value) in
    let Loads = λ (new : LoadingWorld) (answer : LoadAnswer). LoadsHeld g.S.Store.is_honest (g.S.Store.files c.args.store.now) start (g.S.Store.failures c.bind_and_fill.new.store) old meant (load_answer answer) new in
    subst (λ r. IfOk r (Loads (in_world (with_handles rest c.release_modules.new.global.handles) c.release_modules.new.registry))) (sym c.refuse-in-Err-bind_and_fill.ensures.answer)
    (subst (λ new. IfOk (refused_by c.in-Err-bind_and_fill.fault) (Loads new)) (sym gone) (c.in-Err-bind_and_fill.ensures.given rest old meant start le c.reveal_handles.ensures accepted us))

pub returns-in-Err-clause-loads : goal.returns-in-Err-clause-loads
returns-in-Err-clause-loads g c = λ rest meant start le is accepted.
    let same = c.in-Err.ensures.same in
    let world = ap (λ r. in_world (with_handles rest c.name_modules.new.global.handles) r) same.0 ∙ ap (λ x. in_world (with_handles rest x.handles) c.args.registry.now) same.1 in
    let some = held_alike _ _ _ accepted in
    let Loads = λ (answer : LoadAnswer). LoadsHeld g.S.Store.is_honest (g.S.Store.files c.args.store.now) start (g.S.Store.failures c.args.store.now) (in_world (with_handles rest c.args.global.now.handles) c.args.registry.now) meant (load_answer answer)
    (in_world (with_handles rest c.name_modules.new.global.handles) c.name_modules.new.registry) in
    subst (λ r. IfOk r Loads) (sym c.refuse.ensures.answer) (naming_fault c.in-Err.fault _ _ (λ f. IfOk (refused_by f) Loads) (c.in-Err.ensures.fault (record meant { found = some.0 }) (closure_alike _ meant some.0 is some.1))
    (λ few. (some.0, some.1, some.2, inl (inl (few, (refl, world))))) tt)

pub returns-in-Err-clause-device : goal.returns-in-Err-clause-device
returns-in-Err-clause-device g c =
    let Rises = λ (answer : LoadAnswer). RoseIf is_load_device (g.S.Store.failures c.args.store.now) (g.S.Store.failures c.args.store.now) answer in
    subst (λ r. IfOk r Rises) (sym c.refuse.ensures.answer) (naming_fault c.in-Err.fault _ _ (λ f. IfOk (refused_by f) Rises) (c.in-Err.ensures.fault _ (is_closure [] _)) (λ few e. absurd (false≢true e)) tt)

pub returns-in-Err-clause-err : goal.returns-in-Err-clause-err
returns-in-Err-clause-err g c =
    let Same = (c.name_modules.new.registry ≡ c.args.registry.now) × (c.name_modules.new.global ≡ c.args.global.now) in
    subst (λ r. OnErr r Same) (sym c.refuse.ensures.answer) (err_by c.in-Err.fault Same (λ none. c.in-Err.ensures.same))

pub returns-clause-err : goal.returns-clause-err
returns-clause-err g c =
    let rest : LoadingWorld = record { handles = c.args.global.now.handles; modules = c.args.registry.now; loads = finmap.empty; files = []; failures = 0 } in
    let mid = in_world (with_handles rest _) c.name_modules.new.registry in
    let given = in_world (with_handles rest _) c.bind_and_fill.new.registry in
    let meant = closed_in [] c.args.closure in
    let u = subst (λ hs. IsUnbound rest meant hs mid) (sym c.as_slice.ensures.value) (c.in-Ok.ensures.named rest meant (is_closure [] _)) in
    let gone = c.release_modules.ensures.gone rest ∙ ap (λ hs. fold without_module given hs) (c.as_slice-in-Err-bind_and_fill.ensures.value ∙ sym c.as_slice.ensures.value) in
    subst (λ r. OnErr r ((c.release_modules.new.registry ≡ c.args.registry.now) × (c.release_modules.new.global ≡ c.args.global.now))) (sym c.refuse-in-Err-bind_and_fill.ensures.answer)
    (err_by c.in-Err-bind_and_fill.fault ((c.release_modules.new.registry ≡ c.args.registry.now) × (c.release_modules.new.global ≡ c.args.global.now)) (λ none.
    let back = gone ∙ c.in-Err-bind_and_fill.ensures.undone rest rest meant c.reveal_handles.ensures u none in (
      ap (λ w. w.modules) back,
      same_global c.release_modules.new.global c.args.global.now (ap (λ w. w.handles) back) (c.release_modules.ensures.written ∙ c.in-Err-bind_and_fill.ensures.written none ∙ c.in-Ok.ensures.written),
    )))
