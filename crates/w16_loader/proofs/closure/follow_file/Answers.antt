-- A file that a reference leads to is what a load makes of it.
use Rattle.w16_loader.proofs.Common.{List, Modules, Found, IsNewIn, IsRefusedFile, MakesOf, ReadsIn, answers_of, ℕ, refl, sym, subst, ◌∙◌, LoadFault, IsFault, Refused, Meant, referent_of}
use Rattle.w16_loader.specs.Following as following
use Rattle.w16_loader.specs.declared.fault.LoadFault.TheVariants as faults
use Rattle.w16_loading.specs.Answers.{Answers}
use Rattle.w16_loader.proofs.closure.follow_file.Goals as goal

refused_by : {A : Type 0} (answers : Answers) (modules : Modules) (found : List (Found A)) (file : List ℕ) (before after : ℕ) (fault : LoadFault)
    → IsFault (λ refusal. ReadsIn answers modules found file (Refused refusal)) before after fault → IsFault (IsRefusedFile answers modules found file) before after (following.fault_of_reference fault)
refused_by answers modules found file before after (faults.Refused refusal) h = (refusal, h, refl)
refused_by answers modules found file before after faults.Device h = h
refused_by answers modules found file before after faults.OutOfMemory h = tt

pub returns-in-Err-clause-refused : goal.returns-in-Err-clause-refused
returns-in-Err-clause-refused g c =
    let answers = answers_of g.S.Store.is_honest (g.S.Store.files _) in
    let before = g.S.Store.failures c.args.store.now in
    let after = g.S.Store.failures c.examine_file.new.store in
    subst (λ fault. IsFault (IsRefusedFile answers c.args.registry.now c.args.found.now c.args.file.items) before after fault) (sym c.fault_of_reference.ensures.fault)
    (refused_by answers c.args.registry.now c.args.found.now c.args.file.items before after c.in-Err.fault
    (subst (λ name. IsFault (λ refusal. ReadsIn answers c.args.registry.now c.args.found.now name (Refused refusal)) before after c.in-Err.fault) c.as_slice.ensures.value c.in-Err.ensures.makes))

pub returns-in-Err-clause-device : goal.returns-in-Err-clause-device
returns-in-Err-clause-device g c = λ e. c.in-Err.ensures.device (sym c.fault_of_reference.ensures.device ∙ e)

pub returns-in-Ok-Meant-clause-leads : goal.returns-in-Ok-Meant-clause-leads
returns-in-Ok-Meant-clause-leads g c =
    let answers = answers_of g.S.Store.is_honest (g.S.Store.files _) in
    subst (λ name. ReadsIn answers c.args.registry.now c.args.found.now name (Meant (referent_of c.in-Ok-Meant.referent))) c.as_slice.ensures.value
    (subst (MakesOf answers _ _ _) c.in-Ok-Meant.field-0-is c.in-Ok-Meant.ensures.makes)

pub returns-in-Ok-Read-clause-leads : goal.returns-in-Ok-Read-clause-leads
returns-in-Ok-Read-clause-leads g c =
    let answers = answers_of _ _ in (
      refl,
      subst (λ name. IsNewIn answers c.args.registry.now c.args.found.now name c.in-Ok-Read.module) c.as_slice.ensures.value
          (subst (MakesOf answers _ _ _) c.in-Ok-Read.field-0-is c.in-Ok-Read.ensures.makes),
    )
