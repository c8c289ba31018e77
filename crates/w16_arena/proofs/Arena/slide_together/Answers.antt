use Rattle.w16_arena.proofs.{Written.counted_none, Arranged.same_moved, Rooms.no_hole, Rooms.whole_hole, Rooms.none_moved, Steps.kept_beside, Together.kept_slid, Together.rest_slid, Together.slides}
use Rattle.std.proofs.Common.{◌<◌, refl, arith, sym}
use Rattle.w16_arena.proofs.Arena.slide_together.Goals as goal

pub returns-then-room-eq0-clause-slides : goal.returns-then-room-eq0-clause-slides
returns-then-room-eq0-clause-slides g c =
    let m = g.S.Space.bytes c.args.space.now in
    let room = c.room_now-room in
    slides c.self.invariant c.self.view_is m c.reveal_bytes.ensures c.requires.memory.inside (record { from = 0; to = 0 }) (same_moved 0 _ m room.ensures.ordered)
    (record { room = room.result; slid = record { from = 0; to = 0 }; moved = 0 }) refl (no_hole room.ensures.ordered _ room.ensures.value c.if-room-eq0.true) (none_moved _)

pub invariant_of-self-2 : goal.invariant_of-self-2
invariant_of-self-2 g c = kept_beside (kept_slid c.self.invariant c.self.view_is (g.S.Space.bytes _) c.reveal_bytes.ensures c.requires.memory.inside c.in-Some.placed.slid c.in-Some.ensures.slid) c.room_now-room.ensures.gap_rooms

pub returns-clause-slides : goal.returns-clause-slides
returns-clause-slides g c =
    let some : 0 < c.room_now-room.result = omega (arith, c.if-room-eq0.false) in
    let p = c.in-Some.placed in
    slides c.self.invariant c.self.view_is (g.S.Space.bytes _) c.reveal_bytes.ensures c.requires.memory.inside p.slid c.in-Some.ensures.slid (record { room = c.room_now-room.result; slid = p.slid; moved = p.moved }) refl
    (whole_hole c.room_now-room.ensures.ordered c.in-Some.ensures.slid _ p.at c.room_now-room.ensures.value some c.in-Some.ensures.free) c.in-Some.ensures.moved

pub returns-clause-rest : goal.returns-clause-rest
returns-clause-rest g c = rest_slid c.self.invariant c.self.view_is (g.S.Space.bytes _) c.reveal_bytes.ensures c.requires.memory.inside c.in-Some.placed.slid c.in-Some.ensures.slid c.in-Some.ensures.rest

pub returns-then-room-eq0-clause-written : goal.returns-then-room-eq0-clause-written
returns-then-room-eq0-clause-written g c = sym (counted_none _)
