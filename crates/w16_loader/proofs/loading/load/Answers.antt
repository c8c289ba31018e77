-- A load of what is there already, and a new module's load, from the read of its file on.
use Rattle.w16_loader.proofs
use proofs.Common as C
use proofs.Common.{◌≡◌, [], Bool, None, IfOk, sym, ap, ◌∙◌, subst, in_world, Says, Meant, There, ne_format, load_answer, in_store, answers_of}
use proofs.HeldLoads.{for_one, refused_file, there_again, unnamed}
use Rattle.w16_loading.specs.{Answers.LoadsFrom, Answers.told, Fewest.FillsFewest}
use Rattle.std.specs.FinMap as finmap
use Rattle.w16_loader.specs.declared.found.Reading.TheVariants as makes
use Rattle.w16_loader.proofs.loading.load.Goals as goal

pub returns-in-Err-clause-over : goal.returns-in-Err-clause-over
returns-in-Err-clause-over g c = λ rest.
    let files = g.S.Store.files c.args.store.now in
    let start = g.S.Store.failures c.args.store.now in
    let after = g.S.Store.failures c.examine_file.new.store in
    let world = in_store rest c.args.registry.now c.args.global.now.handles files start in
    for_one (λ b answer. LoadsFrom FillsFewest (told _ ne_format files start after) b world c.args.file.now (load_answer answer) world) c.args.is_load_module _
    (subst (λ r. IfOk r (λ answer. (b : Bool) → LoadsFrom FillsFewest (told g.S.Store.is_honest ne_format files start after) b world c.args.file.now (load_answer answer) world)) (sym c.refuse.ensures.answer)
    (refused_file g.S.Store.is_honest files start after rest c.args.registry.now c.args.global.now.handles c.args.file.now c.in-Err.fault
    (subst (λ fs. C.IsFault (λ refusal. C.ReadsIn (answers_of g.S.Store.is_honest (g.S.Store.files c.args.store.now)) c.args.registry.now fs c.args.file.now (C.Refused refusal)) start after c.in-Err.fault) (c.as_slice.ensures.value ∙ c.new-found.ensures.items) c.in-Err.ensures.makes)))

pub returns-in-Ok-Meant-There-clause-over : goal.returns-in-Ok-Meant-There-clause-over
returns-in-Ok-Meant-There-clause-over g c = λ rest.
    let files = g.S.Store.files _ in
    let start = g.S.Store.failures _ in
    let after = g.S.Store.failures _ in
    let modules = c.args.registry.now in
    let handle = c.in-Ok-Meant-There.handle in
    let parts = C.in_parts rest c.args.global.now.handles files start in
    let made = subst (C.MakesOf (answers_of _ _) modules c.as_slice.result.now c.args.file.now) (c.in-Ok-Meant-There.field-0-is ∙ ap makes.Meant c.in-Ok-Meant-There.field-0-0-is) c.in-Ok-Meant-There.ensures.makes in
    let used = subst (λ h. C.used_again c.args.is_load_module (in_world parts modules) h (finmap.get modules h) ≡ (Says c.load_again.result, in_world parts c.load_again.new.registry)) c.in-Ok-Meant-There.handle-is (c.load_again.ensures parts) in
    there_again _ files start after rest modules _ _ _ handle _ _
    (subst (λ fs. C.ReadsIn (answers_of g.S.Store.is_honest (g.S.Store.files c.args.store.now)) modules fs c.args.file.now (Meant (There handle))) (c.as_slice.ensures.value ∙ c.new-found.ensures.items) made) (sym used)

pub returns-clause-over : goal.returns-clause-over
returns-clause-over g c = λ rest.
    let files = g.S.Store.files c.args.store.now in
    let start = g.S.Store.failures c.args.store.now in
    let after = g.S.Store.failures c.load_new.new.store in
    let modules = c.args.registry.now in
    let read = c.in-Ok-Read.read in
    let made = subst (C.MakesOf (answers_of _ _) modules _ c.args.file.now) c.in-Ok-Read.field-0-is c.in-Ok-Read.ensures.makes in
    let none = subst (λ fs. C.meant_in modules fs read.name ≡ None) (c.as_slice.ensures.value ∙ c.new-found.ensures.items) made.1 in
    let accepted = subst (λ fs. C.IsAccepted (answers_of g.S.Store.is_honest fs) c.args.file.now (C.tables_in read)) (sym c.in-Ok-Read.ensures.stays.same) made.0 in
    for_one (λ b answer. LoadsFrom FillsFewest (told _ ne_format files start after) b (in_store rest modules _ files start) c.args.file.now (load_answer answer)
    (in_store rest _ _ files start)) c.args.is_load_module c.load_new.result
    (subst (λ fs. IfOk c.load_new.result (λ answer. (b : Bool) → LoadsFrom FillsFewest (told g.S.Store.is_honest ne_format fs start after) b (in_store rest modules c.args.global.now.handles fs start) c.args.file.now (load_answer answer)
    (in_store rest c.load_new.new.registry c.load_new.new.global.handles fs start))) c.in-Ok-Read.ensures.stays.same
    (c.load_new.ensures.loads rest start c.in-Ok-Read.ensures.stays.counted accepted (unnamed modules _ none)))
