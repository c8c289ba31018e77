use Rattle.std.proofs.Common.{Some, None}
use Rattle.w16_selectors.proofs.Runs.{first_free}
use Rattle.w16_selectors.proofs.Selectors.next_free.Goals as goal

pub returns-in_err-behind : goal.returns-in_err-behind
returns-in_err-behind g c =
    let kept = rw c.self.view_is at c.self.invariant.0 in
    rw c.from_residual.ensures (first_free _ _ _ kept c.requires.first c.requires.inside None (rw c.deref.ensures.value at c.in_err-behind.ensures))

pub returns : goal.returns
returns g c =
    let kept = rw c.self.view_is at c.self.invariant.0 in
    first_free _ _ c.args.from kept c.requires.first c.requires.inside (Some _) (rw c.deref.ensures.value at c.in_ok-behind.ensures)
