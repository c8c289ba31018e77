-- What holds of the module that the registry has.
use Rattle.w16_loader.proofs
use proofs.Common as C
use proofs.Common.{◌≢◌, All, ◌∙◌, subst, Store}
use proofs.Fillings.{one_module, no_module}
use Rattle.w16_loader.proofs.filling.fill_module.Goals as goal

pub returns-in-Some-clause-kept : goal.returns-in-Some-clause-kept
returns-in-Some-clause-kept g c = λ m slot s found.
    subst (λ n. All (λ q. q ≢ slot) n.slots → C.IsUnfilled c.args.global.now.handles slot s → C.IsUnfilled c.fill_segments.new.global.handles slot s) (one_module _ m (c.in-Some.ensures ∙ found)) (c.fill_segments.ensures.kept slot s)

pub returns-in-Some-clause-given : goal.returns-in-Some-clause-given
returns-in-Some-clause-given g c = λ m read place found.
    subst (λ n. C.IsReadAs n read → (g.S.Store.is_honest → C.IsSaid (g.S.Store.files c.args.store.now) n read × C.IsItsFiles n read) → C.HasUnfilled c.args.global.now.handles n
    → C.InTurn (C.gives_over g.S.Store.is_honest (g.S.Store.failures c.args.store.now) (g.S.Store.failures c.fill_segments.new.store)) c.args.global.now.handles.heap (C.fills_in place n read) (C.failure_at place c.fill_segments.result) c.fill_segments.new.global.handles.heap)
    (one_module _ m (c.in-Some.ensures ∙ found)) (c.fill_segments.ensures.given read place)

pub returns-in-None-clause-kept : goal.returns-in-None-clause-kept
returns-in-None-clause-kept g c = λ m slot s found all is. is

pub returns-in-None-clause-given : goal.returns-in-None-clause-given
returns-in-None-clause-given g c = λ m read place found. absurd (no_module m (c.in-None.ensures ∙ found))
