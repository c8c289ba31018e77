use Rattle.w16_show.specs.declared.open.TheConstants.{FILE}
use Rattle.w16_show.proofs.Honest.{own}
use Rattle.w16_show.proofs.open.store_of.Goals as goal

pub returns : goal.returns
returns c = rw own at (c.in_ok-add.ensures.ok FILE.now)
