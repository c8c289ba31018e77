use Rattle.w16_holes.proofs.Common.{ℕ, List, [], arith, sym, subst, IsSameOutside, Free, add_span, HasRoom, AreThreaded, room, no_hole}
use Rattle.w16_holes.proofs.Links.{multiple_of_8, hole_kept, one_threaded}
use Rattle.w16_holes.proofs.threaded.ThreadedHoles.new.Goals as goal

pub set_hole-requires : goal.set_hole-requires
set_hole-requires g c = λ lt.
    let low = multiple_of_8 c.args.grain _ c.requires.wide c.requires.low in
    let high = multiple_of_8 c.args.grain _ c.requires.wide c.requires.high in
    let fits = room _ _ low high lt in
    let inside = c.requires.inside in omega arith

pub invariant_of-result : goal.invariant_of-result
invariant_of-result g c = subst (λ f. HasRoom f.range) (sym c.in_ok-side.ensures) (record { wide = c.requires.wide; small = c.ranges.hi.fits })

pub returns-clause-kept : goal.returns-clause-kept
returns-clause-kept g c =
    let low = multiple_of_8 c.args.grain c.args.lo c.requires.wide c.requires.low in
    let high = multiple_of_8 c.args.grain c.args.hi c.requires.wide c.requires.high in
    subst (λ f. AreThreaded f.holes c.set_hole.new.space.bytes.items) (sym c.in_ok-side.ensures)
    (subst (λ l. AreThreaded (add_span c.args.lo c.args.hi []) l) (sym c.set_hole.ensures.bytes) (one_threaded _ _ c.args.space.now.bytes.items low high c.requires.inside c.ranges.hi.fits))

pub returns-clause-bytes : goal.returns-clause-bytes
returns-clause-bytes g c =
    let low = multiple_of_8 c.args.grain c.args.lo c.requires.wide c.requires.low in
    let high = multiple_of_8 c.args.grain c.args.hi c.requires.wide c.requires.high in
    let kept = hole_kept _ _ no_hole c.args.space.now.bytes.items low high c.requires.inside in
    subst (λ l. IsSameOutside c.args.lo c.args.hi c.args.space.now.bytes.items l) (sym c.set_hole.ensures.bytes) kept.outside
