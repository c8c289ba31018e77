use Rattle.w16_machine.proofs.LocalStays.{heaps_law, local_places_law, places_law}
use Rattle.w16_laws.proofs.local.other_steps_keep_local_heaps.Goals as goal

pub returns-clause-places : goal.returns-clause-places
returns-clause-places g c = places_law _

pub returns-clause-heaps : goal.returns-clause-heaps
returns-clause-heaps g c = heaps_law _

pub returns-clause-locals : goal.returns-clause-locals
returns-clause-locals g c = local_places_law
