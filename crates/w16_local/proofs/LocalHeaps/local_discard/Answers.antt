use Rattle.w16_local.proofs.Common.{◌≡◌, LMEM_MOVEABLE, Some, heap_of, id_named}
use Rattle.w16_local.proofs.Acting.{only_lent}
use Rattle.w16_local.proofs.LocalHeaps.local_discard.Goals as goal

pub returns-clause-step : goal.returns-clause-step
returns-clause-step g c = c.local_realloc.ensures.step

pub returns-clause-written : goal.returns-clause-written
returns-clause-written g c = only_lent c.args.global.now c.local_realloc.new.global c.args.self.now c.args.ds LMEM_MOVEABLE (λ at id. id_named (heap_of at) c.args.name ≡ Some id) c.local_realloc.ensures.written
