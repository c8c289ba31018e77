use Rattle.w16_local.proofs.Common.{ap, subst, sym, LocalHeapInvariant}
use Rattle.w16_local.proofs.OneHeap.{kept_new}
use Rattle.w16_local.proofs.heap.LocalHeap.new.Goals as goal

pub invariant_of-result : goal.invariant_of-result
invariant_of-result g c =
    subst (λ s. LocalHeapInvariant s.table c.in_ok-free.free) (sym c.in_ok-arena.ensures)
    (rw c.in_ok-free.ensures (kept_new c.args.range c.requires.low c.requires.some c.requires.high c.requires.grained))

pub returns : goal.returns
returns g c = ap (λ s. s.table) c.in_ok-arena.ensures
