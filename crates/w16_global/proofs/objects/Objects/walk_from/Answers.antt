use Rattle.w16_global.proofs.Common.{arith}
use Rattle.w16_global.proofs.objects.Objects.walk_from.Goals as goal

pub returns-clause-found : goal.returns-clause-found
returns-clause-found g c = rw (← c.self.view_is) (c.walk_from.ensures.found _ (let high = c.self.invariant.high in omega arith))

pub returns-clause-apart : goal.returns-clause-apart
returns-clause-apart g c = rw (← c.self.view_is) (c.walk_from.ensures.apart _ (let high = c.self.invariant.high in omega arith))
