use Rattle.w16_global.proofs.Common.{◌≡◌, ◌+◌, true, is_some, arith, common_steps, nat_tests, descriptor_at, number_at, slots_for}
use Rattle.w16_global.proofs.Slotwise.{in_table}
use Rattle.w16_global.proofs.runs.place_run.Goals as goal

pub returns-then-size-le-REACH-clause-placed : goal.returns-then-size-le-REACH-clause-placed
returns-then-size-le-REACH-clause-placed g c =
    let one : slots_for c.args.size ≡ 1 = omega arith in
    let known = c.requires.known 0 (omega arith) in
    let numbered = c.requires.numbered 0 (omega arith) in
    let inside = in_table c.args.selectors.now (c.args.first + 0) known in
    λ slot. grind (arith, common_steps, nat_tests)
