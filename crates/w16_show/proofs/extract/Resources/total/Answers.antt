use Rattle.std.proofs.Common.{arith}
use Rattle.w16_ne.specs.Modules.{listed_resources}
use Rattle.w16_show.proofs.Numbering.{got-some, got-resource, listed-count, sum-step, sum-end}
use Rattle.w16_show.proofs.extract.Resources.total.Goals as goal

pub loop-i-preserved : goal.loop-i-preserved
loop-i-preserved c =
    let xs = listed_resources c.args.self.now.resources in
    let r = got-some xs c.loop-i.i (omega (arith, c.loop-i-test.true, c.len-i-end.ensures.count, listed-count c.args.self.now.resources)) in
    let is = c.size.ensures.len r.0 (got-resource c.args.self.now.resources c.loop-i.i r.0 r.1) in
    (sum-step (λ r. r.1.len) xs c.loop-i.i r.0 c.loop-i.total c.size.result r.1 is c.loop-i.invariant.0, omega (arith, c.loop-i.invariant.1, c.size.ensures.small))

pub overflow_add-total : goal.overflow_add-total
overflow_add-total c = omega (arith, c.loop-i.invariant.1, c.loop-i-test.true, c.len-i-end.ensures.few, c.size.ensures.small)

pub returns : goal.returns
returns c = sum-end (λ r. r.1.len) (listed_resources c.args.self.now.resources) c.loop-i.i c.loop-i.total (omega (arith, c.loop-i-test.false, c.len-i-end.ensures.count, listed-count c.args.self.now.resources)) c.loop-i.invariant.0
