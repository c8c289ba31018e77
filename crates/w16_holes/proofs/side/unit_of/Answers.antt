use Rattle.w16_holes.proofs.Units.{whole_units}
use Rattle.w16_holes.proofs.side.unit_of.Goals as goal

pub returns : goal.returns
returns c = rw c.units_in.ensures (whole_units _ _ _ c.requires.some c.requires.from c.requires.low c.requires.grained)
