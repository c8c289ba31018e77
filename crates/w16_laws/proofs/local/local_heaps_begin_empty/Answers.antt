use Rattle.w16_machine.proofs.LocalBegins.{begin_law, new_heap_law}
use Rattle.w16_laws.proofs.local.local_heaps_begin_empty.Goals as goal

pub returns-clause-begin : goal.returns-clause-begin
returns-clause-begin c = begin_law

pub returns-clause-empty : goal.returns-clause-empty
returns-clause-empty c = new_heap_law
