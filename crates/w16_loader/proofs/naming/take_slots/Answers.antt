-- The sizes fit.
use Rattle.w16_loader.proofs.Common.{refl}
use Rattle.w16_loader.proofs.naming.take_slots.Goals as goal

pub returns-then-put_slots-clause-fit : goal.returns-then-put_slots-clause-fit
returns-then-put_slots-clause-fit g c = c.if-put_slots.ensures.fit refl
