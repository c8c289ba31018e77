use Rattle.w16_global.proofs.{Owners.handles_shown, Slots.found_run, Slots.no_run}
use Rattle.w16_global.proofs.global.Global16.free_run.Goals as goal

pub returns-else-count-eq1-clause-found : goal.returns-else-count-eq1-clause-found
returns-else-count-eq1-clause-found g c = found_run c.self.invariant (handles_shown c.self.view_is) _ _ c.find_run.ensures.found

pub returns-else-count-eq1-clause-none : goal.returns-else-count-eq1-clause-none
returns-else-count-eq1-clause-none g c = no_run c.self.invariant (handles_shown c.self.view_is) _ _ c.requires c.find_run.ensures.none
