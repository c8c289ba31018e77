use Rattle.std.proofs.Common.{arith, sym, subst}
use Rattle.w16_holes.specs.Holes.{Free, IsPart}
use Rattle.w16_parts_tests.proofs.holes.has_words.Goals as goal

pub take-requires-clause-part : goal.take-requires-clause-part
take-requires-clause-part c = subst (λ (f : Free). IsPart f.range 64 32) (sym c.requires.whole) (record {
  some = omega arith;
  from = omega arith;
  to = omega arith;
  grained = (2, omega arith);
  rounded = (1, omega arith);
})
