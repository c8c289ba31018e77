use Rattle.w16_arena.proofs.Common.{sym, ap, ◌∙◌, subst, sound_heap, allocation_law, ArenaState, holes_in, HasRange, List, ℕ}
use Rattle.w16_arena.proofs.Answering.{allocates_now, discards_none, refused_kept}
use Rattle.w16_arena.proofs.Arena.alloc.Goals as goal

pub returns-in-Some-clause-allocated : goal.returns-in-Some-clause-allocated
returns-in-Some-clause-allocated g c =
    rw c.forget_discards.ensures (allocates_now c.args.self.now c.in-Some.ensures.sound (g.S.Space.bytes _) c.requires.memory.inside _ _ _ _ c.requires.absent c.requires.some c.requires.rounded c.in-Some.ensures.enough c.in-Some.ensures.stands)

pub returns-in-Some-clause-discarded : goal.returns-in-Some-clause-discarded
returns-in-Some-clause-discarded g c =
    discards_none c.args.self.now c.in-Some.ensures.sound (g.S.Space.bytes _) c.requires.memory.inside
    _ _ c.args.kind _ c.requires.absent c.requires.some c.requires.rounded
    c.in-Some.ensures.enough (ap (λ s. s.discarded) c.forget_discards.ensures)

pub returns-then-not-may_discard-clause-refused : goal.returns-then-not-may_discard-clause-refused
returns-then-not-may_discard-clause-refused g c = (c.in_default.ensures.refused.1, c.in_default.ensures.refused.2)

pub returns-then-not-may_discard-clause-allocated : goal.returns-then-not-may_discard-clause-allocated
returns-then-not-may_discard-clause-allocated g c =
    let r = c.in_default.ensures.refused in
    rw (r.1, r.2) (refused_kept c.args.self.now c.in_default.ensures.sound (g.S.Space.bytes _) c.requires.memory.inside _ _ _ _ c.requires.absent c.requires.some c.requires.rounded r.0 (sym c.may_discard.ensures ∙ c.if-not-may_discard.true))

pub returns-clause-placed : goal.returns-clause-placed
returns-clause-placed g c = let r = c.in_default.ensures.refused in rw (← r.1, ← r.2) c.alloc_discarding.ensures.placed

pub returns-clause-discarded : goal.returns-clause-discarded
returns-clause-discarded g c = let r = c.in_default.ensures.refused in rw (← r.1, ← r.2) c.alloc_discarding.ensures.discarded

pub returns-in-Some-clause-fewest : goal.returns-in-Some-clause-fewest
returns-in-Some-clause-fewest g c =
    allocation_law _ _ _ _ _ _ _ _ (sound_heap c.args.self.now.table c.in-Some.ensures.sound (g.S.Space.bytes _) c.requires.memory.inside c.reveal_bytes.ensures) (returns-in-Some-clause-allocated g c)

pub returns-then-not-may_discard-clause-fewest : goal.returns-then-not-may_discard-clause-fewest
returns-then-not-may_discard-clause-fewest g c =
    allocation_law _ _ _ _ _ _ _ _ (sound_heap c.args.self.now.table c.in_default.ensures.sound (g.S.Space.bytes _) c.requires.memory.inside c.reveal_bytes.ensures) (returns-then-not-may_discard-clause-allocated g c)

pub returns-clause-allocated : goal.returns-clause-allocated
returns-clause-allocated g c = let r = c.in_default.ensures.refused in rw (← r.1, ← r.2) c.alloc_discarding.ensures.allocated

pub returns-clause-fewest : goal.returns-clause-fewest
returns-clause-fewest g c =
    allocation_law _ _ _ _ _ _ _ _ (sound_heap c.args.self.now.table c.in_default.ensures.sound (g.S.Space.bytes _) c.requires.memory.inside c.reveal_bytes.ensures) (returns-clause-allocated g c)

pub returns-in-Some-clause-rest : goal.returns-in-Some-clause-rest
returns-in-Some-clause-rest g c = rw c.forget_discards.ensures c.in-Some.ensures.rest

pub returns-then-not-may_discard-clause-rest : goal.returns-then-not-may_discard-clause-rest
returns-then-not-may_discard-clause-rest g c = c.in_default.ensures.rest

pub alloc_discarding-requires-clause-id : goal.alloc_discarding-requires-clause-id
alloc_discarding-requires-clause-id g c = rw c.in_default.ensures.refused.1 c.requires.id

pub alloc_discarding-requires-clause-absent : goal.alloc_discarding-requires-clause-absent
alloc_discarding-requires-clause-absent g c = rw c.in_default.ensures.refused.1 c.requires.absent

pub alloc_discarding-requires-clause-rounded : goal.alloc_discarding-requires-clause-rounded
alloc_discarding-requires-clause-rounded g c = rw c.in_default.ensures.refused.1 c.requires.rounded

pub alloc_discarding-requires-clause-memory : goal.alloc_discarding-requires-clause-memory
alloc_discarding-requires-clause-memory g c =
    let r = c.in_default.ensures.refused in let m = g.S.Space.bytes c.args.space.now in
    subst (λ m. HasRange g.H.Holes.are_in (holes_in c.alloc_now.new.self.table) c.alloc_now.new.self.table.hi m) (sym (ap g.S.Space.bytes r.2)) (subst (λ s. HasRange g.H.Holes.are_in (holes_in s.table) s.table.hi m) (sym r.1) c.requires.memory)

pub alloc_discarding-requires-clause-may : goal.alloc_discarding-requires-clause-may
alloc_discarding-requires-clause-may g c = sym c.may_discard.ensures ∙ c.if-not-may_discard.false

pub returns-clause-refused : goal.returns-clause-refused
returns-clause-refused g c = let r = c.in_default.ensures.refused in rw (← r.1, ← r.2) c.alloc_discarding.ensures.refused

pub returns-clause-rest : goal.returns-clause-rest
returns-clause-rest g c = let r = c.in_default.ensures.refused in rw (← r.1, ← r.2) c.alloc_discarding.ensures.rest

pub returns-clause-written : goal.returns-clause-written
returns-clause-written g c = rw (← c.in_default.ensures.refused.2) c.alloc_discarding.ensures.written
