use Rattle.w16_arena.proofs
use proofs.Answering as M
use proofs.Common.{ℕ, arith, ap, ◌∙◌, subst, if◌then◌else◌, refl, counted, with_newest, IsNew, heap_in, Stands}
use proofs.Keeping.{heap_kept, none_changed}
use Rattle.w16_arena.proofs.Arena.alloc_discarding.Goals as goal

pub returns-in_default-clause-allocated : goal.returns-in_default-clause-allocated
returns-in_default-clause-allocated g c =
    let found = c.least_discards.ensures in
    rw found.same (M.refused_needed c.args.self.now found.sound (g.S.Space.bytes _) c.requires.memory.inside _ _ _ _ c.requires.absent c.requires.some c.requires.rounded c.requires.may found.value c.in_default.is)

pub alloc_now-requires-clause-absent : goal.alloc_now-requires-clause-absent
alloc_now-requires-clause-absent g c =
    let found = c.least_discards.ensures in
    M.absent_then c.args.self.now found.sound (g.S.Space.bytes _) c.requires.memory.inside c.args.id c.args.size c.args.kind c.args.options c.requires.absent c.requires.some c.requires.rounded c.requires.may found.value
    c.in-Some.k c.in-Some.is c.discard_first.new.self (rw found.same at c.discard_first.ensures.discards)

pub unreachable-requires : goal.unreachable-requires
unreachable-requires g c =
    let found = c.least_discards.ensures in
    let enough = M.room_then c.args.self.now found.sound (g.S.Space.bytes _) c.requires.memory.inside c.args.id c.args.size c.args.kind c.args.options c.requires.absent c.requires.some c.requires.rounded c.requires.may found.value
    c.in-Some.k c.in-Some.is c.discard_first.new.self (rw found.same at c.discard_first.ensures.discards) in
    let short = c.in_default-alloc_now.ensures.refused.0 in
    omega arith

pub returns : goal.returns
returns g c =
    let m = g.S.Space.bytes c.args.space.now in
    let found = c.least_discards.ensures in
    let mid = c.discard_first.new.self in
    let discards = rw found.same at c.discard_first.ensures.discards in
    let bytes = c.discard_first.ensures.bytes in
    let p = c.in-Some-alloc_now.ensures in
    let new = heap_in c.alloc_now.new.self.table (g.S.Space.bytes _) in
    let stands = subst (λ h. Stands h c.args.id c.args.size (IsNew c.args.options.zero c.args.size c.args.kind 0) (with_newest c.args.id) c.args.options c.in-Some-alloc_now.placed new) (heap_kept m (g.S.Space.bytes _) mid.table bytes.contents) p.stands in
    record {
      allocated = M.allocates_then c.args.self.now found.sound m c.requires.memory.inside _ _ _ _ c.requires.absent c.requires.some c.requires.rounded c.requires.may found.value c.in-Some.k c.in-Some.is mid discards stands;
      placed = M.placed_then c.args.self.now found.sound m c.requires.memory.inside _ _ c.args.kind _ c.requires.absent c.requires.some c.requires.rounded c.requires.may found.value c.in-Some.k c.in-Some.is mid discards stands c.reveal_bytes.ensures;
      discarded = M.discards_then c.args.self.now found.sound m c.requires.memory.inside _ _ c.args.kind _ c.requires.absent c.requires.some c.requires.rounded c.requires.may found.value c.in-Some.k c.in-Some.is mid discards p.discarded;
      refused = tt;
      rest = M.rest_after discards.range bytes.rest p.rest;
      written = p.written ∙ ap (λ w. counted (counted w c.in-Some-alloc_now.placed.moved) (if c.args.options.zero then c.args.size else 0)) bytes.count;
    }

pub returns-in_default-clause-refused : goal.returns-in_default-clause-refused
returns-in_default-clause-refused g c = (c.least_discards.ensures.same, refl)

pub returns-in_default-clause-rest : goal.returns-in_default-clause-rest
returns-in_default-clause-rest g c = let found = c.least_discards.ensures in rw found.same (none_changed _ found.sound c.requires.memory.kept)
