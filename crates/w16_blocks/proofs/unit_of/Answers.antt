use Rattle.w16_blocks.proofs.Common.{◌≡◌, ◌*◌, ◌-◌, arith, whole_units}
use Rattle.w16_blocks.proofs.unit_of.Goals as goal

pub returns : goal.returns
returns c =
    let whole : c.args.grain * c.units_in.result ≡ c.args.place - c.args.lo = rw c.units_in.ensures (whole_units _ _ _ c.requires.some c.requires.from c.requires.low c.requires.grained) in
    let from = c.requires.from in omega arith
