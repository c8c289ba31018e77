use Rattle.std.proofs.Common.{Some, None}
use Rattle.w16_selectors.proofs.Runs.{first_taken}
use Rattle.w16_selectors.proofs.Selectors.next_taken.Goals as goal

pub returns-in_err-behind : goal.returns-in_err-behind
returns-in_err-behind g c =
    let kept = rw c.self.view_is at c.self.invariant.0 in
    rw c.from_residual.ensures (first_taken _ _ _ _ kept c.requires.order c.requires.inside None (rw c.deref.ensures.value at c.in_err-behind.ensures))

pub returns : goal.returns
returns g c =
    let kept = rw c.self.view_is at c.self.invariant.0 in
    first_taken _ _ c.args.from c.args.to kept c.requires.order c.requires.inside (Some _) (rw c.deref.ensures.value at c.in_ok-behind.ensures)
