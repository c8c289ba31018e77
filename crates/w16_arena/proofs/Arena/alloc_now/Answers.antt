use Rattle.w16_arena.proofs
use proofs.Common as C
use proofs.Common.{ap, arith, ℕ, ◌∙◌, if◌then◌else◌, ◌≤◌}
use proofs.Granting.{may_insert, kept_placed, rest_placed, stands_placed}
use proofs.{Shown.known as known_in, Shown.told, Written.counted_if, Keeping.moved_kept, Keeping.none_changed}
use Rattle.w16_arena.proofs.Arena.alloc_now.Goals as goal

pub insert-requires-clause-fits : goal.insert-requires-clause-fits
insert-requires-clause-fits g c =
    may_insert c.self.invariant c.self.view_is (g.S.Space.bytes _) c.reveal_bytes.ensures c.requires.memory.inside _ _ c.args.kind c.args.options c.requires.id c.requires.absent c.requires.some c.requires.rounded
    c.in_ok-placed.placed c.in_ok-placed.ensures.slid c.in_ok-placed.ensures.free c.hold.ensures

pub invariant_of-self-2 : goal.invariant_of-self-2
invariant_of-self-2 g c =
    let moved = moved_kept c.in_ok-placed.placed.slid.from c.in_ok-placed.placed.slid.to _ _ _ _ _ c.in_ok-placed.ensures.slid c.insert.ensures.bytes.contents c.insert.ensures.bytes.rest.bytes.long c.insert.ensures.small in
    kept_placed c.self.invariant c.self.view_is _ c.reveal_bytes.ensures c.requires.memory.inside _ c.args.size _ c.args.options c.requires.id c.requires.absent c.requires.some c.requires.rounded
    c.in_ok-placed.placed moved c.in_ok-placed.ensures.free c.hold.ensures c.insert.ensures.value c.insert.ensures.ordered c.clear_if.ensures.bytes c.list_new.ensures

pub returns-clause-stands : goal.returns-clause-stands
returns-clause-stands g c =
    let moved = moved_kept _ _ _ _ _ _ _ c.in_ok-placed.ensures.slid c.insert.ensures.bytes.contents c.insert.ensures.bytes.rest.bytes.long c.insert.ensures.small in
    stands_placed c.self.invariant c.self.view_is _ c.reveal_bytes.ensures c.requires.memory.inside _ _ _ _ c.requires.id c.requires.absent c.requires.some c.requires.rounded
    _ moved c.in_ok-placed.ensures.free c.hold.ensures c.insert.ensures.value c.insert.ensures.ordered c.clear_if.ensures.bytes c.list_new.ensures
    (λ off. (c.in_ok-placed.ensures.still off).0) c.in_ok-placed.ensures.moved

pub returns-clause-rest : goal.returns-clause-rest
returns-clause-rest g c =
    let slid = c.in_ok-placed.ensures.slid in
    let lo = ap (λ l. l.lo) slid.same in let hi = ap (λ l. l.hi) slid.same in
    let moved = moved_kept _ _ _ _ _ _ _ slid c.insert.ensures.bytes.contents c.insert.ensures.bytes.rest.bytes.long c.insert.ensures.small in
    rest_placed c.self.invariant c.self.view_is _ c.reveal_bytes.ensures c.requires.memory.inside _ c.args.size _ c.args.options c.requires.id c.requires.absent c.requires.some c.requires.rounded
    c.in_ok-placed.placed moved c.in_ok-placed.ensures.free c.hold.ensures c.insert.ensures.value c.insert.ensures.ordered c.clear_if.ensures.bytes c.list_new.ensures g.met.H.Holes.stay
    (C.leaves_more c.in_ok-placed.ensures.rest c.insert.ensures.bytes.rest (omega arith) (omega arith)) c.clear_if.ensures.rest c.clear_if.ensures.lenders

pub returns-clause-written : goal.returns-clause-written
returns-clause-written g c =
    c.clear_if.ensures.written ∙ counted_if c.args.options.zero (g.S.Space.written _) c.args.size
    ∙ ap (λ w. C.counted w (if c.args.options.zero then c.args.size else 0)) (c.insert.ensures.bytes.count ∙ c.in_ok-placed.ensures.written)

pub returns-clause-discarded : goal.returns-clause-discarded
returns-clause-discarded g c = ap (λ s. s.discarded) c.self.view_is

pub returns-clause-sound : goal.returns-clause-sound
returns-clause-sound g c = told c.self.invariant c.self.view_is (λ t. C.IsSound t) c.self.invariant.sound

pub invariant_of-self : goal.invariant_of-self
invariant_of-self g c = rw c.in_err-placed.ensures.refused.1 c.self.invariant

pub returns-in_err-placed-clause-rest : goal.returns-in_err-placed-clause-rest
returns-in_err-placed-clause-rest g c = let r = c.in_err-placed.ensures.refused in
    told c.self.invariant c.self.view_is (λ t. C.KeepsRest g.H.Holes.are_in g.S.Space.bytes g.S.Space.lenders t c.args.space.now (C.table_of c.self.inside.entries.items c.make_room.new.blocks c.self.inside.order.ids) c.make_room.new.space)
    (rw (r.1, r.2) (none_changed c.args.space.now c.self.invariant.sound (known_in c.self.invariant c.self.view_is (λ t. g.H.Holes.are_in (C.holes_in t) (g.S.Space.bytes c.args.space.now)) c.requires.memory.kept)))

pub returns-clause-enough : goal.returns-clause-enough
returns-clause-enough g c = told c.self.invariant c.self.view_is (λ t. c.args.size ≤ C.most_in t c.args.options.compact) c.in_ok-placed.ensures.enough
