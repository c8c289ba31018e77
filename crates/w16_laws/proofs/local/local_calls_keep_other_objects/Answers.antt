use Rattle.w16_machine.proofs.{LocalOthers.local_others_law, LocalOthers.local_pinned_law}
use Rattle.w16_laws.proofs.{LocalOrders.local_order_law, LocalStill.places_law}
use Rattle.w16_laws.proofs.local.local_calls_keep_other_objects.Goals as goal

pub returns-clause-others : goal.returns-clause-others
returns-clause-others c = local_others_law

pub returns-clause-places : goal.returns-clause-places
returns-clause-places c = places_law

pub returns-clause-pinned : goal.returns-clause-pinned
returns-clause-pinned c = local_pinned_law

pub returns-clause-order : goal.returns-clause-order
returns-clause-order c = local_order_law
