use Rattle.std.proofs.Common.{None, ap, get_or, ◌∙◌}
use Rattle.w16_local.proofs.Beginning.{nothing_more}
use Rattle.w16_local.proofs.init.reach.Goals as goal

pub more-preserved : goal.more-preserved
more-preserved g c q = ap (λ ys. get_or ys q None) c.in_ok-push.ensures.items ∙ nothing_more c.more.heaps.items q ∙ c.more.invariant q
