use Rattle.w16_arena.proofs.Common.{ArenaState, refl, sym, arith, ap, heap_in, sound_heap, compaction_law}
use Rattle.w16_arena.proofs.{Keeping.none_changed, Moved.moved_few, Unmoved.unmoved, Answering.compacts_none, Answering.still_same}
use Rattle.w16_arena.proofs.Arena.compact.Goals as goal

pub returns-clause-compacted : goal.returns-clause-compacted
returns-clause-compacted g c =
    let m = g.S.Space.bytes c.args.space.now in
    rw (c.forget_discards.ensures, c.room_all-room.ensures.same) (compacts_none c.args.self.now c.is_sound.ensures m c.requires.memory.inside _ (c.room_all-room.ensures.value m c.requires.memory.inside) _ (omega arith))

pub returns-clause-slid : goal.returns-clause-slid
returns-clause-slid g c =
    let heap = heap_in c.args.self.now.table (g.S.Space.bytes _) in
    rw (c.forget_discards.ensures, c.room_all-room.ensures.same) (record {
      still = still_same heap (record { from = 0; to = 0 });
      moved = sym (unmoved heap heap refl);
      few = let none = unmoved heap heap refl in omega (arith, none, moved_few c.args.self.now.table c.is_sound.ensures (g.S.Space.bytes c.args.space.now) c.requires.memory.inside heap);
    })

pub returns-clause-rest : goal.returns-clause-rest
returns-clause-rest g c =
    rw (c.forget_discards.ensures, c.room_all-room.ensures.same) (none_changed _ c.is_sound.ensures c.requires.memory.kept)

pub returns-clause-fewest : goal.returns-clause-fewest
returns-clause-fewest g c =
    compaction_law _ _ _ _ (sound_heap c.args.self.now.table c.is_sound.ensures (g.S.Space.bytes _) c.requires.memory.inside c.reveal_bytes.ensures) (returns-clause-compacted g c)

pub returns-then-n-gt0-clause-fewest : goal.returns-then-n-gt0-clause-fewest
returns-then-n-gt0-clause-fewest g c =
    compaction_law _ _ _ _ (sound_heap c.args.self.now.table c.is_sound.ensures (g.S.Space.bytes _) c.requires.memory.inside c.reveal_bytes.ensures) c.slide_discarding.ensures.compacted

pub returns-clause-none : goal.returns-clause-none
returns-clause-none g c = λ _. (ap (λ s. s.discarded) c.forget_discards.ensures, refl)
