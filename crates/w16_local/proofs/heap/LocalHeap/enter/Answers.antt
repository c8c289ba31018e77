use Rattle.w16_local.proofs.Common.{sym, subst, LocalHeapInvariant}
use Rattle.w16_local.proofs.OneHeap.{kept_entered, turns}
use Rattle.w16_local.proofs.heap.LocalHeap.enter.Goals as goal

pub invariant_of-self : goal.invariant_of-self
invariant_of-self g c = subst (λ free. LocalHeapInvariant c.enter.new.self.table free) (sym c.set.ensures) (kept_entered c.self.inside.arena c.self.invariant c.enter.new.self c.args.id c.args.kind c.requires.id c.enter.ensures.steps)

pub returns : goal.returns
returns g c = turns c.self.inside.arena c.self.view_is c.enter.new.self c.enter.ensures.steps
