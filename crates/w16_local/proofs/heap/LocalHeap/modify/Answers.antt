use Rattle.w16_model.specs.OneObject.{after_modify}
use Rattle.w16_local.proofs.Entries.{modified}
use Rattle.w16_local.proofs.OneHeap.{kept_turned, still, turned}
use Rattle.w16_local.proofs.heap.LocalHeap.modify.Goals as goal

pub invariant_of-self : goal.invariant_of-self
invariant_of-self g c = kept_turned c.self.inside.arena c.self.invariant c.modify.new.self (λ h. after_modify h c.args.id c.args.kind) (λ x y. modified x y c.args.id c.args.kind) c.modify.result c.modify.ensures.ok _ c.modify.ensures.err

pub returns-clause-turns : goal.returns-clause-turns
returns-clause-turns g c = turned c.self.inside.arena c.self.view_is c.modify.new.self (λ h. after_modify h c.args.id c.args.kind) c.modify.result c.modify.ensures.ok c.modify.ensures.err

pub returns-clause-refused : goal.returns-clause-refused
returns-clause-refused g c = still c.self.inside.arena c.self.view_is c.modify.new.self _ c.modify.result c.modify.ensures.err
