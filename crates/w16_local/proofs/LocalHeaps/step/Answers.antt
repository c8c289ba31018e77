use Rattle.w16_local.proofs
use proofs.Common.{◌≡◌, OnErr, sym, subst, ◌∙◌, arith, IsLocalTable, MayStep, Turns, after_step, outcome}
use proofs.Locals.{here, in_range, not_none}
use proofs.Stepping.{holds_in, known_in, listed_stepped, same_tables, stepped}
use Rattle.std.specs.FinMap as finmap
use Rattle.w16_local.proofs.LocalHeaps.step.Goals as goal

pub index_mut-requires : goal.index_mut-requires
index_mut-requires g c = let lt = in_range _ c.self.inside.heaps.items c.self.view_is c.args.slot (known_in (finmap.get c.args.self.now c.args.slot) (MayStep c.args.step c.args.id) c.requires) in omega (arith, lt, c.self.inside.heaps.ok.0)

pub unreachable-requires : goal.unreachable-requires
unreachable-requires g c = not_none _ c.self.inside.heaps.items c.self.view_is c.args.slot (known_in (finmap.get c.args.self.now c.args.slot) (MayStep c.args.step c.args.id) c.requires) _ c.take.result (c.take.ensures.value ∙ c.index_mut.ensures.value) c.in_default.is

pub step-done-requires : goal.step-done-requires
step-done-requires g c =
    let known = known_in (finmap.get c.args.self.now c.args.slot) (MayStep c.args.step c.args.id) c.requires in
    subst (λ t. MayStep c.args.step c.args.id t) (sym c.deref_mut.ensures.value)
    (holds_in (MayStep c.args.step c.args.id) (here _ c.self.inside.heaps.items c.self.view_is c.args.slot known _ c.in-Some.heap (sym (c.take.ensures.value ∙ c.index_mut.ensures.value) ∙ c.in-Some.is)) c.requires)

pub index_mut-requires-2 : goal.index_mut-requires-2
index_mut-requires-2 g c = let lt = in_range _ c.self.inside.heaps.items c.self.view_is c.args.slot (known_in (finmap.get c.args.self.now c.args.slot) (MayStep c.args.step c.args.id) c.requires) in omega (arith, lt, c.self.inside.heaps.ok.0)

pub invariant_of-self : goal.invariant_of-self
invariant_of-self g c =
    let known = known_in (finmap.get c.args.self.now c.args.slot) (MayStep c.args.step c.args.id) c.requires in
    listed_stepped _ c.self.inside.heaps.items c.self.view_is c.args.slot known _ c.in-Some.heap (sym (c.take.ensures.value ∙ c.index_mut.ensures.value) ∙ c.in-Some.is) _ c.take.new.self c.self.inside.live.items c.self.invariant

pub returns-clause-stepped : goal.returns-clause-stepped
returns-clause-stepped g c =
    let known = known_in (finmap.get c.args.self.now c.args.slot) (MayStep c.args.step c.args.id) c.requires in
    stepped _ c.self.inside.heaps.items c.self.view_is c.args.slot known _ c.in-Some.heap (sym (c.take.ensures.value ∙ c.index_mut.ensures.value) ∙ c.in-Some.is) _ c.take.new.self
    (subst IsLocalTable c.deref.ensures c.reveal_local.ensures)
    (subst (λ t. Turns t c.step-done.new.self (λ old new. after_step c.args.step old c.args.id ≡ outcome c.step-done.result new)) c.deref_mut.ensures.value c.step-done.ensures.turns)

pub returns-clause-refused : goal.returns-clause-refused
returns-clause-refused g c =
    let known = known_in (finmap.get c.args.self.now c.args.slot) (MayStep c.args.step c.args.id) c.requires in
    same_tables _ c.self.inside.heaps.items c.self.view_is c.args.slot known _ c.in-Some.heap (sym (c.take.ensures.value ∙ c.index_mut.ensures.value) ∙ c.in-Some.is) _ c.take.new.self c.step-done.result
    (subst (λ t. OnErr c.step-done.result (c.step-done.new.self ≡ t)) c.deref_mut.ensures.value c.step-done.ensures.refused)
