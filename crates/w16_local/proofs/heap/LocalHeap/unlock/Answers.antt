use Rattle.w16_model.specs.OneObject.{after_unlock}
use Rattle.w16_local.proofs.Entries.{unlocked}
use Rattle.w16_local.proofs.OneHeap.{kept_turned, still, turned}
use Rattle.w16_local.proofs.heap.LocalHeap.unlock.Goals as goal

pub invariant_of-self : goal.invariant_of-self
invariant_of-self g c = kept_turned c.self.inside.arena c.self.invariant c.unlock.new.self (λ h. after_unlock h c.args.id) (λ x y. unlocked x y c.args.id) c.unlock.result c.unlock.ensures.ok _ c.unlock.ensures.err

pub returns-clause-turns : goal.returns-clause-turns
returns-clause-turns g c = turned c.self.inside.arena c.self.view_is c.unlock.new.self (λ h. after_unlock h c.args.id) c.unlock.result c.unlock.ensures.ok c.unlock.ensures.err

pub returns-clause-refused : goal.returns-clause-refused
returns-clause-refused g c = still c.self.inside.arena c.self.view_is c.unlock.new.self _ c.unlock.result c.unlock.ensures.err
