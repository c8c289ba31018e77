-- Past the last handle nothing is named.
use Rattle.w16_loader.proofs.Common.{◌+◌, FIRST_MODULE, MOST_MODULES, inl, inr, arith, cases_lt}
use Rattle.w16_loader.proofs.Registered.{past_idle}
use Rattle.w16_loader.proofs.registry.Registry.first_idle.Goals as goal

pub returns-clause-none : goal.returns-clause-none
returns-clause-none g c = λ handle. elim (cases_lt handle (FIRST_MODULE + MOST_MODULES)) [
  | inl lt ↦ c.loop-handle.invariant handle (omega arith)
  | inr le ↦ rw (← c.self.view_is) (past_idle c.self.inside.entries handle (omega (arith, le, c.self.invariant.0.many)))
]
