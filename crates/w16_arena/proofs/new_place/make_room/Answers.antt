use Rattle.w16_arena.proofs.{Written.counted_none, Common.rules, Common.sym, Common.◌∙◌, Common.moved_same, Arranged.same_moved, Keeping.leaves_same, Rooms.hole_free, Rooms.hole_enough, Rooms.hole_missing, Rooms.made_enough}
use Rattle.w16_arena.proofs.new_place.make_room.Goals as goal

pub returns-in-Some-clause-slid : goal.returns-in-Some-clause-slid
returns-in-Some-clause-slid g c = same_moved 0 _ _ c.hole_for.ensures.ordered

pub returns-in-Some-clause-free : goal.returns-in-Some-clause-free
returns-in-Some-clause-free g c = hole_free c.hole_for.ensures.ordered _ _ (sym c.in-Some.is ∙ c.hole_for.ensures.value)

pub returns-in-Some-clause-moved : goal.returns-in-Some-clause-moved
returns-in-Some-clause-moved g c = sym (moved_same _)

pub returns-in-Some-clause-enough : goal.returns-in-Some-clause-enough
returns-in-Some-clause-enough g c = hole_enough c.hole_for.ensures.ordered _ c.in-Some.at (sym c.in-Some.is ∙ c.hole_for.ensures.value) _

pub returns-then-compact-clause-enough : goal.returns-then-compact-clause-enough
returns-then-compact-clause-enough g c = made_enough c.hole_for.ensures.ordered _ _ _ _ _ c.gather_for.ensures.slid c.gather_for.ensures.free _ c.if-compact.true

pub returns-else-compact-clause-refused : goal.returns-else-compact-clause-refused
returns-else-compact-clause-refused g c = (hole_missing c.hole_for.ensures.ordered _ c.requires.some (sym c.in_default.is ∙ c.hole_for.ensures.value) _ c.if-compact.false, search rules, search rules)

pub returns-else-compact-clause-enough : goal.returns-else-compact-clause-enough
returns-else-compact-clause-enough g c = tt

pub returns-in-Some-clause-written : goal.returns-in-Some-clause-written
returns-in-Some-clause-written g c = sym (counted_none _)

pub returns-in-Some-clause-rest : goal.returns-in-Some-clause-rest
returns-in-Some-clause-rest g c = leaves_same _ _ _ c.requires.memory.kept

pub returns-else-compact-clause-rest : goal.returns-else-compact-clause-rest
returns-else-compact-clause-rest g c = leaves_same _ _ _ c.requires.memory.kept
