use Rattle.std.proofs.Common.{◌≤◌, ◌<◌, refl, subst, arith}
use Rattle.w16_global.proofs.Joining.{locked_stays, unlocked_goes}
use Rattle.w16_global.proofs.global.Global16.free.Goals as goal

pub returns-then-locks-gt0-clause-err : goal.returns-then-locks-gt0-clause-err
returns-then-locks-gt0-clause-err g c = (locked_stays _ _ (subst (λ n. 0 < n) c.locks.ensures (omega arith)), refl)

pub returns-clause-ok : goal.returns-clause-ok
returns-clause-ok g c = (unlocked_goes _ _ c.requires (subst (λ n. n ≤ 0) c.locks.ensures (omega arith)), c.remove.ensures)
