use Rattle.w16_script.proofs.Common.{◌≤◌, drop, length, length-drop, arith, subst, take_rest}
use Rattle.w16_script.proofs.WriteLemmas.{Appends-take}
use Rattle.w16_script.proofs.write.write_whole.Goals as goal

pub tries-preserved : goal.tries-preserved
tries-preserved g c =
    let (within, appended) = c.in_ok-count.ensures.ok in
    let fits : c.in_ok-count.count ≤ length (drop c.tries.at c.args.bytes.now) = subst (λ l. c.in_ok-count.count ≤ length l) (take_rest c.args.bytes.now c.tries.at) within in
    record {
      within = omega (arith, fits, length-drop c.tries.at c.args.bytes.now);
      appends = Appends-take _ _ _ c.args.bytes.now _ c.tries.at c.in_ok-count.count c.tries.invariant.appends (take_rest c.args.bytes.now c.tries.at) appended;
    }
