use Rattle.w16_global.proofs.Common.{arith, handle_of, told_none, told_to_end, told_all}
use Rattle.w16_global.proofs.global.Global16.walk_len.Goals as goal

pub loop-item-init : goal.loop-item-init
loop-item-init g c = record { told = told_none _ _; few = omega arith }

pub loop-item-preserved : goal.loop-item-preserved
loop-item-preserved g c =
    let few = c.loop-item.invariant.few in
    let low = c.in-Some.ensures.found.1 in
    let some = c.in-Some.ensures.inside.0 in
    record { told = told_to_end _ _ c.in-Some.item some c.in-Some.ensures.apart _ c.loop-item.from c.loop-item.invariant.told c.in-Some.ensures.found; few = omega arith }

pub returns : goal.returns
returns g c = told_all _ _ _ c.loop-item.from c.loop-item.invariant.told c.in_default.ensures.found
