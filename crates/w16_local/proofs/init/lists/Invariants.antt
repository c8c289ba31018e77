use Rattle.std.proofs.Common.{◌-◌, length}
use Rattle.w16_local.proofs.init.lists.Given as goal

-- how many are left
abbrev pub decreases-slots : goal.decreases-slots
decreases-slots l = length l.live - l.i
