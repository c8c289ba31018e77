use Rattle.std.proofs.Common.{None, ap, get_or, ◌∙◌}
use Rattle.w16_local.proofs.{Beginning.nothing_more, Locals.listed_none, Locals.no_tables}
use Rattle.w16_local.proofs.LocalHeaps.new.Goals as goal

pub invariant_of-result : goal.invariant_of-result
invariant_of-result g c = listed_none c.loop.heaps.items _ c.loop.invariant

pub returns : goal.returns
returns g c = no_tables _ c.loop.heaps.items c.loop.invariant

pub loop-preserved : goal.loop-preserved
loop-preserved g c q = ap (λ ys. get_or ys q None) c.in_ok-push.ensures.items ∙ nothing_more c.loop.heaps.items q ∙ c.loop.invariant q
