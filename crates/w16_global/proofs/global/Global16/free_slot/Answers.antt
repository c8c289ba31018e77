use Rattle.w16_global.proofs.{Owners.handles_shown, Slots.found_free, Slots.none_free}
use Rattle.w16_global.proofs.global.Global16.free_slot.Goals as goal

pub returns-clause-found : goal.returns-clause-found
returns-clause-found g c = found_free c.self.invariant (handles_shown c.self.view_is) _ c.lowest_free.ensures.found

pub returns-clause-none : goal.returns-clause-none
returns-clause-none g c = none_free c.self.invariant (handles_shown c.self.view_is) _ c.lowest_free.ensures.none
