use Rattle.w16_local.proofs.Common.{◌∙◌, IfNone, arith, subst, sym, IsFull, IsLowest}
use Rattle.w16_local.proofs.OneHeap.{full, lowest}
use Rattle.w16_local.proofs.heap.LocalHeap.lowest_free.Goals as goal

pub returns-in_err-id-clause-none : goal.returns-in_err-id-clause-none
returns-in_err-id-clause-none g c = subst (λ r. IfNone r (IsFull c.args.self.now)) (sym c.from_residual.ensures) (subst IsFull c.self.view_is (full c.self.invariant (sym c.lowest.ensures ∙ c.in_err-id.was)))

pub overflow_cast-result : goal.overflow_cast-result
overflow_cast-result g c = let known = (lowest c.self.invariant c.in_ok-id.id (sym c.lowest.ensures ∙ c.in_ok-id.was)).known in omega (arith, known)

pub returns-clause-found : goal.returns-clause-found
returns-clause-found g c = subst (λ t. IsLowest t c.in_ok-id.id) c.self.view_is (lowest c.self.invariant c.in_ok-id.id (sym c.lowest.ensures ∙ c.in_ok-id.was))
