use Rattle.std.proofs.Common.{◌-◌, ◌^◌}
use Rattle.w16map.proofs.view.push_walk.Given as goal

abbrev pub decreases-items : goal.decreases-items
decreases-items g l = 2 ^ 32 - l.from
