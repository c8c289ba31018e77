use Rattle.w16_compact.proofs.Common.{◌<◌, arith, subst, room_for, snapshot}
use Rattle.w16_compact.proofs.Searched.{least_needed, none_needed}
use Rattle.w16_compact.proofs.prefix.least_prefix.Goals as goal

pub returns-then-found-n-clause-value : goal.returns-then-found-n-clause-value
returns-then-found-n-clause-value g c =
    let l = c.args.blocks.now in let ids = c.args.order.now.ids in let found = c.search-found.ensures in
    let few : c.search-found.result.room < c.from.result = let wide = c.from.ensures in let short = c.if-found-n.true in omega arith in
    let short = c.if-found-n.true in let all = found.all few in
    none_needed l.lo l.hi l.blocks ids c.args.h c.args.n (subst (λ k. room_for (snapshot l.lo l.hi l.blocks ids) k c.args.h < c.args.n) c.len-all.ensures (omega arith))

pub returns-clause-value : goal.returns-clause-value
returns-clause-value g c =
    let l = c.args.blocks.now in let ids = c.args.order.now.ids in let found = c.search-found.ensures in let wide = c.from.ensures in
    let enough = c.if-found-n.false in let room = found.room in
    least_needed l.lo l.hi _ ids _ _ _ (omega arith) (λ j lt. let fewer = found.fewest j lt in omega arith)
