-- What a name means is there, and a file is what it was when it was read.
use Rattle.std.specs.Result.{IfErr}
use Rattle.w16_store.specs.Later.{RoseIf}
use Rattle.w16_loader.specs.Devices.{is_fault_device}
use Rattle.w16_loader.proofs.Common.{arith, inl, MatchResult, MakesOf, ReadsIn, answers_of, tables_in, ℕ, ◌≤◌, Result, Ok, Err, sym, subst, LoadFault, LoadRefusal, IsFault, Refused}
use Rattle.w16_loader.proofs.{Meanings.all_there, Values.fault_so}
use Rattle.w16_loader.proofs.found.examine_file.Goals as goal

made_since : {X : Type 0} (IsMade : X → Type 0) (IsRefused : LoadRefusal → Type 0) (before mid after : ℕ) (r : Result X LoadFault) → before ≤ mid → MatchResult r IsMade (IsFault IsRefused mid after) → MatchResult r IsMade (IsFault IsRefused before after)
made_since IsMade IsRefused before mid after (Ok made) le h = h
made_since IsMade IsRefused before mid after (Err fault) le h = fault_so (λ refusal h. h) before mid after fault le h

pub returns-in-Err-clause-makes : goal.returns-in-Err-clause-makes
returns-in-Err-clause-makes g c = fault_so (λ refusal h. inl h) _ _ _ c.in-Err.fault (omega arith) c.in-Err.ensures.says

pub returns-in-Ok-clause-makes : goal.returns-in-Ok-clause-makes
returns-in-Ok-clause-makes g c =
    let says = subst (λ fs. (answers_of g.S.Store.is_honest fs).says c.args.name.now (Ok (tables_in c.in-Ok.read))) (sym c.read_file.ensures.stays.same) c.in-Ok.ensures.says in
    subst (λ fs. MatchResult c.examine_module.result (MakesOf (answers_of g.S.Store.is_honest fs) c.args.registry.now c.args.found.now c.args.name.now)
    (IsFault (λ refusal. ReadsIn (answers_of g.S.Store.is_honest fs) c.args.registry.now c.args.found.now c.args.name.now (Refused refusal)) (g.S.Store.failures c.args.store.now) (g.S.Store.failures c.examine_module.new.store)))
    c.read_file.ensures.stays.same (made_since _ _ _ _ _ c.examine_module.result c.read_file.ensures.stays.counted (c.examine_module.ensures.makes says))

rose_since : {X : Type 0} (r : Result X LoadFault) (before mid after : ℕ) → before ≤ mid → IfErr r (RoseIf is_fault_device mid after) → IfErr r (RoseIf is_fault_device before after)
rose_since (Ok made) before mid after le h = h
rose_since (Err fault) before mid after le h = λ e. (let lt = h e in omega (arith, le, lt))

pub returns-in-Ok-clause-device : goal.returns-in-Ok-clause-device
returns-in-Ok-clause-device g c = rose_since _ _ _ _ c.read_file.ensures.stays.counted c.examine_module.ensures.device

pub returns-in-Ok-clause-there : goal.returns-in-Ok-clause-there
returns-in-Ok-clause-there g c =
    let says = subst (λ fs. (answers_of g.S.Store.is_honest fs).says c.args.name.now (Ok (tables_in c.in-Ok.read))) (sym c.read_file.ensures.stays.same) c.in-Ok.ensures.says in
    all_there _ _ (answers_of _ _) c.args.name.now _ _ (c.examine_module.ensures.makes says)
