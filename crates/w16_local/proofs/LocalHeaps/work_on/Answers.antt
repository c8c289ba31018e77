use Rattle.w16_local.proofs.Common.{◌≡◌, length, IsSomeAnd, sym, subst, ◌∙◌, ap, is_some, arith, Some, counted, IsLocalTable}
use Rattle.w16_local.proofs.{Acting.acted_in, Acting.may_lent, Locals.here, Locals.in_range, Locals.not_none, Stepping.listed_stepped, Stepping.tables_stepped}
use Rattle.w16_local.proofs.LocalHeaps.work_on.Goals as goal

pub index_mut-requires : goal.index_mut-requires
index_mut-requires g c = let lt = in_range _ c.self.inside.heaps.items c.self.view_is c.args.slot (ap is_some c.requires.was) in omega (arith, lt, c.self.inside.heaps.ok.0)

pub unreachable-requires : goal.unreachable-requires
unreachable-requires g c = not_none _ c.self.inside.heaps.items c.self.view_is c.args.slot (ap is_some c.requires.was) _ c.take.result (c.take.ensures.value ∙ c.index_mut.ensures.value) c.in_default.is

pub index_mut-requires-2 : goal.index_mut-requires-2
index_mut-requires-2 g c = let lt = in_range _ c.self.inside.heaps.items c.self.view_is c.args.slot (ap is_some c.requires.was) in omega (arith, lt, c.self.inside.heaps.ok.0)

pub with_bytes-answer-requires : goal.with_bytes-answer-requires
with_bytes-answer-requires g c =
    may_lent c.requires c.as_mut.result.now
    (here _ c.self.inside.heaps.items c.self.view_is c.args.slot (ap is_some c.requires.was) _ c.in-Some.heap (sym (c.take.ensures.value ∙ c.index_mut.ensures.value) ∙ c.in-Some.is) ∙ ap Some (sym c.as_mut.ensures.value))

pub invariant_of-self : goal.invariant_of-self
invariant_of-self g c = listed_stepped _ c.self.inside.heaps.items c.self.view_is c.args.slot (ap is_some c.requires.was) _ c.in-Some.heap (sym (c.take.ensures.value ∙ c.index_mut.ensures.value) ∙ c.in-Some.is) _ c.take.new.self c.self.inside.live.items c.self.invariant

pub returns-clause-acted : goal.returns-clause-acted
returns-clause-acted g c =
    let shown = here _ c.self.inside.heaps.items c.self.view_is c.args.slot (ap is_some c.requires.was) _ c.in-Some.heap (sym (c.take.ensures.value ∙ c.index_mut.ensures.value) ∙ c.in-Some.is) in
    acted_in c.as_mut.result.now c.with_bytes-answer.new.state (shown ∙ ap Some (sym c.as_mut.ensures.value)) (subst IsLocalTable c.deref.ensures c.reveal_local.ensures)
    c.with_bytes-answer.ensures.0 c.with_bytes-answer.new.self.handles (ap (λ g. g.handles) c.with_bytes-answer.ensures.1) _
    (tables_stepped _ c.self.inside.heaps.items c.self.view_is c.args.slot (ap is_some c.requires.was) _ c.in-Some.heap (sym (c.take.ensures.value ∙ c.index_mut.ensures.value) ∙ c.in-Some.is) _ c.take.new.self)

pub returns-clause-lent : goal.returns-clause-lent
returns-clause-lent g c =
    let lent = c.with_bytes-answer.ensures.0 in
    subst (λ b. IsSomeAnd b (λ bytes. c.with_bytes-answer.new.self.written ≡ counted c.args.global.now.written (length bytes))) (sym lent.had) (ap (λ g. g.written) c.with_bytes-answer.ensures.1)
