use Rattle.std.proofs.Common.{arith, sym, ◌∙◌}
use Rattle.w16_holes.proofs.Units.{above}
use Rattle.w16_holes.proofs.Told.{begin_lt, begin_ends, begin_other, begin_none}
use Rattle.w16_holes.proofs.side.begin_of.Goals as goal

pub bytes_before-requires-clause-small : goal.bytes_before-requires-clause-small
bytes_before-requires-clause-small g c =
    let lt = begin_lt c.args.grain c.args.lengths.now _ c.requires.apart _ (sym c.in-Some.is ∙ c.requires.below) in
    let r = above c.args.grain c.in-Some.begin c.args.unit lt in let small = c.requires.small in omega arith

pub get-requires : goal.get-requires
get-requires g c = let lt = begin_lt c.args.grain c.args.lengths.now c.args.unit c.requires.apart c.in-Some.begin (sym c.in-Some.is ∙ c.requires.below) in omega arith

pub returns-in-Some : goal.returns-in-Some
returns-in-Some g c = begin_ends _ _ _ c.requires.apart _ (sym c.in-Some.is ∙ c.requires.below) (omega arith)

pub returns-in_default : goal.returns-in_default
returns-in_default g c = begin_other _ _ _ c.requires.apart c.in-Some.begin (sym c.in-Some.is ∙ c.requires.below) (λ e. c.if-bytes_before-get.false (omega arith))

pub returns-in_default-2 : goal.returns-in_default-2
returns-in_default-2 g c = begin_none _ _ _ c.requires.apart (sym c.in_default.is ∙ c.requires.below)
