use Rattle.std.proofs.{Common.◌/◌, Common.arith, Math.Nat.div-add-mod}
use Rattle.w16_parts_tests.proofs.holes.is_place.Goals as goal

pub returns-then-place-le256 : goal.returns-then-place-le256
returns-then-place-le256 g c = record {
  from = omega arith;
  to = omega arith;
  grained = (g.args.place / 32, grind (arith, div-add-mod g.args.place 32, c));
}
