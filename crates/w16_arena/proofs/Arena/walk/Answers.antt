use Rattle.w16_arena.proofs.Common.{◌≡◌, slice_get, ap, ◌∙◌, arith, heap_in, by_its_id, told_none, told_at, told_past}
use Rattle.w16_arena.proofs.Ahead.{told_to_end}
use Rattle.w16_arena.proofs.Arena.walk.Goals as goal

pub loop-init : goal.loop-init
loop-init g c = λ memory whole. told_none _ _

pub loop-preserved : goal.loop-preserved
loop-preserved g c = λ memory whole. told_to_end _ _ c.in_ok-item.item c.in_ok-item.ensures.inside.0 (c.in_ok-item.ensures.apart memory whole) _ c.loop.from (c.loop.invariant memory whole) (c.in_ok-item.ensures.found memory whole)

pub returns-in_err-item : goal.returns-in_err-item
returns-in_err-item g c = λ memory whole items walk. c.from_residual.ensures
    ∙ told_past by_its_id (heap_in c.args.self.now.table memory) c.loop.counter c.loop.from (c.loop.invariant memory whole) (c.in_err-item.ensures.found memory whole) c.args.i (let lt = c.loop-test.true in omega arith) items walk

pub returns : goal.returns
returns g c = λ memory whole items walk.
    let all : c.loop.counter ≡ c.args.i = omega arith in
    told_at _ _ _ c.loop.from (c.loop.invariant memory whole) _ (c.walk_from-2.ensures.found memory whole) items walk
    ∙ ap (λ k. slice_get items k) all
