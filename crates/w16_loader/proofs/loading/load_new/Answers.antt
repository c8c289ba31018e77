-- A new module's load, by its closure.
use Rattle.w16_loader.proofs
use proofs.Common as C
use proofs.Common.{Bool, [], Err, IfOk, sym, subst, arith, in_store, answers_of, ◌≤◌, ℕ, Ok}
use proofs.HeldLoads.{closed_load, is_closure, refused_closure}
use Rattle.w16_loading.specs.{Answers.LoadsFrom, Answers.told, Fewest.FillsFewest}
use Rattle.w16_store.specs.Later.{RoseIf}
use Rattle.w16_loader.specs.Devices.{is_load_device}
use Rattle.w16_loader.proofs.loading.load_new.Goals as goal

rose_since : (r : C.Result C.LoadAnswer C.AllocError) (before mid after : ℕ) → before ≤ mid → IfOk r (RoseIf is_load_device mid after) → IfOk r (RoseIf is_load_device before after)
rose_since (Ok answer) before mid after le h = λ e. (let lt = h e in omega (arith, le, lt))
rose_since (Err e) before mid after le h = h

pub returns-in-Ok-clause-device : goal.returns-in-Ok-clause-device
returns-in-Ok-clause-device g c = rose_since _ _ _ _ c.in-Ok.ensures.stays.counted c.load_closure.ensures.device

pub returns-in-Err-clause-loads : goal.returns-in-Err-clause-loads
returns-in-Err-clause-loads g c = λ rest start le accepted unnamed.
    let files = g.S.Store.files c.args.store.now in
    let after = g.S.Store.failures c.close.new.store in
    let t = C.tables_in c.args.read in
    let world = in_store rest c.args.registry.now c.args.global.now.handles files start in
    subst (λ r. IfOk r (λ answer. (b : Bool) → LoadsFrom FillsFewest (told g.S.Store.is_honest C.ne_format files start after) b world c.args.file.now (C.load_answer answer) world)) (sym c.refuse.ensures.answer)
    (refused_closure g.S.Store.is_honest files start after rest _ c.args.global.now.handles c.args.file.now t accepted unnamed c.requires _ le c.in-Err.fault
    (subst (λ f. C.IsFault (λ refusal. C.ClosesOf (answers_of g.S.Store.is_honest (g.S.Store.files c.args.store.now)) c.args.registry.now f t (Err refusal)) (g.S.Store.failures c.args.store.now) after c.in-Err.fault) c.in_ok-name.ensures
    (c.in-Err.ensures.refused (subst (λ f. C.IsAccepted (answers_of g.S.Store.is_honest (g.S.Store.files c.args.store.now)) f t) (sym c.in_ok-name.ensures) accepted))))

pub returns-in-Ok-clause-loads : goal.returns-in-Ok-clause-loads
returns-in-Ok-clause-loads g c = λ rest start le accepted unnamed.
    let files = g.S.Store.files _ in
    let after = g.S.Store.failures _ in
    let t = C.tables_in c.args.read in
    let world = in_store rest c.args.registry.now c.args.global.now.handles files start in
    let new = in_store rest _ _ files start in
    let meant = C.closed_in [] c.in-Ok.closure in
    let all = subst (λ fs. C.AreAccepted (answers_of g.S.Store.is_honest fs) meant.found) (sym c.in-Ok.ensures.stays.same) (c.in-Ok.ensures.accepted (subst (λ f. C.IsAccepted (answers_of g.S.Store.is_honest (g.S.Store.files c.args.store.now)) f t) (sym c.in_ok-name.ensures) accepted)) in
    closed_load _ files start after rest _ _ _ t accepted unnamed c.requires c.in-Ok.closure
    (subst (λ f. C.IsClosureBy (answers_of g.S.Store.is_honest (g.S.Store.files c.args.store.now)) c.args.registry.now f t c.in-Ok.closure) c.in_ok-name.ensures c.in-Ok.ensures.closes) new _
    (subst (λ fs. IfOk c.load_closure.result (λ answer. C.LoadsHeld g.S.Store.is_honest fs start after world meant (C.load_answer answer) new)) c.in-Ok.ensures.stays.same
    (c.load_closure.ensures.loads (record rest { files = files; failures = start }) meant start (omega (arith, le, c.in-Ok.ensures.stays.counted)) (is_closure [] _) all))

pub load_closure-requires-clause-few : goal.load_closure-requires-clause-few
load_closure-requires-clause-few g c = c.in-Ok.ensures.few c.requires
