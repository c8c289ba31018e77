use Rattle.w16_holes.proofs.Common.{ℕ, ◌≡◌, ◌+◌, ◌-◌, ◌<◌, ◌*◌, ◌/◌, ap, arith, sym, ◌∙◌, List, [], set, replicate, subst, Span, Range, add_span, spans, AreCells}
use Rattle.w16_holes.proofs.Told.{spans_one, AreCells-one}
use Rattle.w16_holes.proofs.side.SideHoles.new.Given as given
use Rattle.w16_holes.proofs.side.SideHoles.new.Goals as goal

cells : (g : given.Over) (c : goal.After-set g) → c.set.new.self ≡ set (replicate ((c.max.result - c.args.lo) / c.args.grain + 1) 0) 0 (c.args.hi - c.args.lo)
cells g c = c.set.ensures ∙ ap (λ ns. set ns 0 (c.args.hi - c.args.lo)) c.in_ok-lengths.ensures

pub invariant_of-result : goal.invariant_of-result
invariant_of-result o c =
    let some = c.requires.some in let n = c.max.result - c.args.lo in let g = c.args.grain in
    let most = c.max.ensures in let long : n < g * (n / g + 1) = omega arith in
    let r : Range = record { lo = c.args.lo; hi = c.args.hi; grain = c.args.grain } in
    subst (AreCells r) (sym (cells o c)) (AreCells-one r (n / g) c.requires.some c.requires.grained c.requires.bounds (omega arith) (omega (arith, long)) (omega (arith, long)))

pub returns : goal.returns
returns g c =
    let range : Range = record { lo = c.args.lo; hi = c.args.hi; grain = c.args.grain } in
    let up_to : c.args.lo + (c.args.hi - c.args.lo) ≡ c.args.hi = let le = c.requires.bounds in omega arith in
    ap (λ hs. record { range = range; holes = hs })
    (ap (spans _ _) (cells g c) ∙ spans_one c.args.grain ((c.max.result - c.args.lo) / c.args.grain) _ (c.args.hi - c.args.lo) ∙ ap (λ to. add_span c.args.lo to []) up_to)
