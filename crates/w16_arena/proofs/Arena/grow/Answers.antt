use Rattle.w16_arena.proofs.Common.{refl, sym, subst, ◌∙◌, ArenaState, holes_in, HasRange, List, ℕ, ap}
use Rattle.w16_arena.proofs.Growing.{refused_now, grows_now}
use Rattle.w16_arena.proofs.Arena.grow.Goals as goal

pub returns-in-Some-clause-resized : goal.returns-in-Some-clause-resized
returns-in-Some-clause-resized g c =
    let m = g.S.Space.bytes _ in let b = c.args.block in let e = c.in-Some.ensures in
    rw c.forget_discards.ensures (grows_now c.args.self.now e.sound m c.requires.memory.inside b c.requires.known _ c.requires.more c.requires.rounded _ c.requires.free e.enough e.stands e.hole refl)

pub returns-then-not-may_discard-clause-refused : goal.returns-then-not-may_discard-clause-refused
returns-then-not-may_discard-clause-refused g c =
    let m = g.S.Space.bytes _ in let b = c.args.block in let e = c.in_default.ensures in
    (refused_now c.args.self.now e.sound m c.requires.memory.inside b c.requires.known _ c.requires.more c.requires.rounded _ c.requires.free e.refused.0 (sym c.may_discard.ensures ∙ c.if-not-may_discard.true), e.refused.1, e.refused.2)

pub returns-clause-resized : goal.returns-clause-resized
returns-clause-resized g c = let r = c.in_default.ensures.refused in rw (← r.1, ← r.2) c.grow_discarding.ensures.resized

pub returns-clause-refused : goal.returns-clause-refused
returns-clause-refused g c = let r = c.in_default.ensures.refused in rw (← r.1, ← r.2) c.grow_discarding.ensures.refused

pub returns-in-Some-clause-rest : goal.returns-in-Some-clause-rest
returns-in-Some-clause-rest g c = rw c.forget_discards.ensures c.in-Some.ensures.rest

pub returns-then-not-may_discard-clause-rest : goal.returns-then-not-may_discard-clause-rest
returns-then-not-may_discard-clause-rest g c = c.in_default.ensures.rest

pub grow_discarding-requires-clause-known : goal.grow_discarding-requires-clause-known
grow_discarding-requires-clause-known g c = rw c.in_default.ensures.refused.1 c.requires.known

pub grow_discarding-requires-clause-rounded : goal.grow_discarding-requires-clause-rounded
grow_discarding-requires-clause-rounded g c = rw c.in_default.ensures.refused.1 c.requires.rounded

pub grow_discarding-requires-clause-memory : goal.grow_discarding-requires-clause-memory
grow_discarding-requires-clause-memory g c =
    let r = c.in_default.ensures.refused in let m = g.S.Space.bytes c.args.space.now in
    subst (λ m. HasRange g.H.Holes.are_in (holes_in c.grow_now.new.self.table) c.grow_now.new.self.table.hi m) (sym (ap g.S.Space.bytes r.2)) (subst (λ s. HasRange g.H.Holes.are_in (holes_in s.table) s.table.hi m) (sym r.1) c.requires.memory)

pub grow_discarding-requires-clause-may : goal.grow_discarding-requires-clause-may
grow_discarding-requires-clause-may g c = sym c.may_discard.ensures ∙ c.if-not-may_discard.false

pub returns-clause-rest : goal.returns-clause-rest
returns-clause-rest g c = let r = c.in_default.ensures.refused in rw (← r.1, ← r.2) c.grow_discarding.ensures.rest

pub returns-clause-written : goal.returns-clause-written
returns-clause-written g c = rw (← c.in_default.ensures.refused.2) c.grow_discarding.ensures.written
