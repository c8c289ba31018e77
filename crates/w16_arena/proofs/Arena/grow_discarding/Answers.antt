use Rattle.w16_arena.proofs
use proofs.Common.{ℕ, ap, ◌∙◌, subst, refl, sym, if◌then◌else◌, ◌-◌, IsSomeAnd, false≢true, counted, object_at, IsGrown, heap_in, Stands}
use proofs.Growing.{entry_below, refused_then, known_then, room_then, grows_then}
use proofs.{Keeping.heap_kept, Keeping.none_changed, Answering.rest_after}
use Rattle.w16_arena.proofs.Arena.grow_discarding.Goals as goal

pub least_discards-requires-clause-h : goal.least_discards-requires-clause-h
least_discards-requires-clause-h g c = entry_below c.args.self.now.table c.is_sound.ensures c.args.block c.requires.known

pub returns-in_default-clause-refused : goal.returns-in_default-clause-refused
returns-in_default-clause-refused g c =
    let found = c.least_discards.ensures in let m = g.S.Space.bytes c.args.space.now in let b = c.args.block in
    (refused_then c.args.self.now found.sound m c.requires.memory.inside b c.requires.known _ c.requires.more c.requires.rounded _ c.requires.free c.requires.may found.value c.in_default.is, found.same, refl)

pub grow_now-requires-clause-known : goal.grow_now-requires-clause-known
grow_now-requires-clause-known g c =
    let found = c.least_discards.ensures in let m = g.S.Space.bytes c.args.space.now in let b = c.args.block in
    known_then c.args.self.now found.sound m c.requires.memory.inside b c.requires.known c.args.size c.requires.more c.requires.rounded c.args.options c.requires.free c.requires.may found.value
    c.in-Some.k c.in-Some.is c.discard_first.new.self (rw found.same at c.discard_first.ensures.discards)

pub unreachable-requires : goal.unreachable-requires
unreachable-requires g c =
    let found = c.least_discards.ensures in let m = g.S.Space.bytes c.args.space.now in let b = c.args.block in
    let enough = room_then c.args.self.now found.sound m c.requires.memory.inside b c.requires.known c.args.size c.requires.more c.requires.rounded c.args.options c.requires.free c.requires.may found.value
    c.in-Some.k c.in-Some.is c.discard_first.new.self (rw found.same at c.discard_first.ensures.discards) in
    let short = c.in_default-grow_now.ensures.refused.0 in
    false≢true (sym short ∙ enough)

pub returns : goal.returns
returns g c =
    let m = g.S.Space.bytes c.args.space.now in let b = c.args.block in
    let found = c.least_discards.ensures in
    let mid = c.discard_first.new.self in
    let discards = rw found.same at c.discard_first.ensures.discards in
    let bytes = c.discard_first.ensures.bytes in
    let p = c.in-Some-grow_now.ensures in
    let new = heap_in c.grow_now.new.self.table (g.S.Space.bytes _) in
    let stood = subst (λ h. IsSomeAnd (object_at h b.id) (λ o. Stands h b.id c.args.size (IsGrown c.args.options.zero c.args.size o) (λ _ order. order) c.args.options c.in-Some-grow_now.placed new)) (heap_kept m (g.S.Space.bytes _) mid.table bytes.contents) p.stands in
    record {
      resized = grows_then c.args.self.now found.sound m c.requires.memory.inside b c.requires.known _
          c.requires.more c.requires.rounded _ c.requires.free c.requires.may found.value c.in-Some.k
          c.in-Some.is mid discards _ new stood c.reveal_bytes.ensures p.discarded;
      refused = tt;
      rest = rest_after discards.range bytes.rest p.rest;
      written = p.written ∙ ap (λ w. counted (counted w c.in-Some-grow_now.placed.moved) (if c.args.options.zero then c.args.size - b.size else 0)) bytes.count;
    }

pub returns-in_default-clause-rest : goal.returns-in_default-clause-rest
returns-in_default-clause-rest g c = let found = c.least_discards.ensures in rw found.same (none_changed _ found.sound c.requires.memory.kept)
