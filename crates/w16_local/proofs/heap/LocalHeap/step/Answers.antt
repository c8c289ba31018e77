use Rattle.w16_local.proofs.Common.{◌≡◌, Ok, Result, subst, sym, Refusal, Heap, Turns, after_step}
use Rattle.w16_local.proofs.OneHeap.{enters_turn}
use Rattle.w16_local.proofs.heap.LocalHeap.step.Goals as goal

pub returns-in-Enter-clause-turns : goal.returns-in-Enter-clause-turns
returns-in-Enter-clause-turns g c =
    subst (λ s. Turns c.args.self.now c.enter.new.self (λ old new. ◌≡◌ {A = Result Heap Refusal} (after_step s old c.args.id) (Ok new))) (sym c.in-Enter.is) (enters_turn c.args.id c.in-Enter.kind c.enter.ensures)
