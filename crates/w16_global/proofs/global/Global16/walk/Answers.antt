use Rattle.w16_global.proofs.Common.{◌≡◌, slice_get, ap, ◌∙◌, arith, handle_of, told_none, told_to_end, told_at, told_past}
use Rattle.w16_global.proofs.global.Global16.walk.Goals as goal

pub loop-init : goal.loop-init
loop-init g c = told_none _ _

pub loop-preserved : goal.loop-preserved
loop-preserved g c = told_to_end _ _ c.in_ok-item.item c.in_ok-item.ensures.inside.0 c.in_ok-item.ensures.apart _ c.loop.from c.loop.invariant c.in_ok-item.ensures.found

pub returns-in_err-item : goal.returns-in_err-item
returns-in_err-item g c = λ items walk. c.from_residual.ensures
    ∙ told_past handle_of c.args.self.now.handles.heap c.loop.counter c.loop.from c.loop.invariant c.in_err-item.ensures.found c.args.i (let lt = c.loop-test.true in omega arith) items walk

pub returns : goal.returns
returns g c = λ items walk.
    let all : c.loop.counter ≡ c.args.i = omega arith in
    told_at _ _ _ c.loop.from c.loop.invariant _ c.walk_from-2.ensures.found items walk
    ∙ ap (λ k. slice_get items k) all
