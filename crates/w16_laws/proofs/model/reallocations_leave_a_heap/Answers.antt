use Rattle.w16_model.proofs.{Absence.discard_heap_law, KindChanges.kind_heap_law, Reallocations.heap_law}
use Rattle.w16_laws.proofs.model.reallocations_leave_a_heap.Goals as goal

pub returns-clause-sizes : goal.returns-clause-sizes
returns-clause-sizes c = heap_law

pub returns-clause-kinds : goal.returns-clause-kinds
returns-clause-kinds c = kind_heap_law

pub returns-clause-discards : goal.returns-clause-discards
returns-clause-discards c = discard_heap_law
