use Rattle.std.proofs.Common.{◌+◌, refl, arith}
use Rattle.w16_selectors.proofs.Runs.{run_is_free}
use Rattle.w16_selectors.proofs.Selectors.is_free_run.Goals as goal

pub returns : goal.returns
returns g c =
    let slots = rw c.self.view_is at c.self.inside.descriptors.ok.0 in
    run_is_free _ _ _ _ c.requires refl (omega arith) c.next_taken.result _ c.is_none.ensures c.next_taken.ensures
