use Rattle.std.proofs.Common.{sym, ◌∙◌}
use Rattle.w16_local.proofs.FreeEntries.{found, next}
use Rattle.w16_local.proofs.free_entries.FreeEntries.lowest.Goals as goal

pub returns-in-Some : goal.returns-in-Some
returns-in-Some g c = rw (← c.self.view_is) (found c.self.invariant c.in-Some.entry (sym c.first_at_least.ensures ∙ c.in-Some.is))

pub returns-in-None : goal.returns-in-None
returns-in-None g c = rw (← c.self.view_is) (next c.self.invariant (sym c.first_at_least.ensures ∙ c.in-None.is) c.if-self.true)
