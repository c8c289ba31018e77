use Rattle.w16_model.specs.OneObject.{after_lock}
use Rattle.w16_local.proofs.Entries.{locked}
use Rattle.w16_local.proofs.OneHeap.{kept_turned, still, turned}
use Rattle.w16_local.proofs.heap.LocalHeap.lock.Goals as goal

pub invariant_of-self : goal.invariant_of-self
invariant_of-self g c = kept_turned c.self.inside.arena c.self.invariant c.lock.new.self (λ h. after_lock h c.args.id) (λ x y. locked x y c.args.id) c.lock.result c.lock.ensures.ok _ c.lock.ensures.err

pub returns-clause-turns : goal.returns-clause-turns
returns-clause-turns g c = turned c.self.inside.arena c.self.view_is c.lock.new.self (λ h. after_lock h c.args.id) c.lock.result c.lock.ensures.ok c.lock.ensures.err

pub returns-clause-refused : goal.returns-clause-refused
returns-clause-refused g c = still c.self.inside.arena c.self.view_is c.lock.new.self _ c.lock.result c.lock.ensures.err
