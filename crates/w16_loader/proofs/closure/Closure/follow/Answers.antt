-- A name that means nothing is looked for in its file.
use Rattle.w16_loader.proofs.Common as C
use Rattle.std.specs.Result.{IfErr}
use Rattle.std.proofs.lemmas.Result.{IfErr-weaker, IfOk-weaker}
use Rattle.w16_loader.proofs.Common.{[], inr, arith, ◌≡◌, None, IfOk, sym, ap, ◌∙◌, subst}
use Rattle.w16_loader.proofs.Values.{fault_so}
use Rattle.w16_loader.proofs.closure.Closure.follow.Goals as goal

pub returns-in-Ok-clause-refused : goal.returns-in-Ok-clause-refused
returns-in-Ok-clause-refused g c =
    let answers = C.answers_of _ _ in
    let modules = c.args.registry.now in
    let before = g.S.Store.failures _ in
    let after = g.S.Store.failures _ in
    let old = c.args.self.now in
    let name = c.args.name.now in
    let none = subst (λ found. C.meant_in modules found name ≡ None) c.as_slice-found.ensures.value (sym (c.meant.ensures []) ∙ ap (C.option_map _) c.in_default.is) in
    let fault = subst (λ found. IfErr c.follow_file.result (C.IsFault (C.IsRefusedFile answers modules found c.in-Ok.file.items) before after)) c.as_slice-found.ensures.value c.follow_file.ensures.refused in
    let here = subst (λ file. IfErr c.follow_file.result (C.IsFault (C.IsRefusedFile answers modules old.found.items file) before after)) c.in-Ok.ensures fault in
    IfErr-weaker _ _ _ (λ fault h. fault_so {Q = C.IsRefusedName answers modules old.found.items name} (λ refusal h. (none, h)) before before after fault (omega arith) h) here

pub returns-in-Ok-clause-leads : goal.returns-in-Ok-clause-leads
returns-in-Ok-clause-leads g c =
    let answers = C.answers_of g.S.Store.is_honest (g.S.Store.files _) in
    let modules = c.args.registry.now in
    let old = c.args.self.now in
    let name = c.args.name.now in
    let none = subst (λ found. C.meant_in modules found name ≡ None) c.as_slice-found.ensures.value (sym (c.meant.ensures []) ∙ ap (C.option_map _) c.in_default.is) in
    let read = subst (λ found. IfOk c.follow_file.result (C.LeadsByAnswer answers modules found c.in-Ok.file.items)) c.as_slice-found.ensures.value c.follow_file.ensures.leads in
    let here = subst (λ file. IfOk c.follow_file.result (C.LeadsByAnswer answers modules old.found.items file)) c.in-Ok.ensures read in
    IfOk-weaker _ _ _ (λ made h. inr (none, h)) here
