use Rattle.std.proofs.Common.{refl}
use Rattle.w16_blocks.proofs.Tagged.{none_at, slot_in, begins_at, is_known}
use Rattle.w16_blocks.proofs.runs.block_at.Goals as goal

pub returns-then-begin-eq0 : goal.returns-then-begin-eq0
returns-then-begin-eq0 c = none_at c.requires.tables c.unit_of.result c.unit_of.ensures c.if-begin-eq0.true

pub bounds-slots-begin : goal.bounds-slots-begin
bounds-slots-begin c = slot_in c.requires.tables c.unit_of.result c.unit_of.ensures refl c.if-begin-eq0.false

pub returns : goal.returns
returns c = (begins_at c.requires.tables c.unit_of.result c.unit_of.ensures refl c.if-begin-eq0.false _, is_known c.requires.tables c.unit_of.result c.unit_of.ensures refl c.if-begin-eq0.false _)
