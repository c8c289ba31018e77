-- The first of the list is the first of the map.
use Rattle.w16_resource.proofs.Listed.{entries_are}
use Rattle.w16_resource.proofs.resources.Resources.first_of.Goals as goal

pub returns-clause-first : goal.returns-clause-first
returns-clause-first g c = rw (← c.self.view_is, entries_are c.self.inside.loads.items, ← c.as_slice.ensures.value) c.first_of.ensures.first
