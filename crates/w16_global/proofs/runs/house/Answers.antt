use Rattle.w16_global.proofs.Common.{◌≡◌, ◌+◌, Option, ap, option_map, unwrap_or, arith, nat_tests, Attributes, slots_in}
use Rattle.w16_global.proofs.Slotwise.{run_within}
use Rattle.w16_global.proofs.runs.house.Goals as goal

pub rehouse-requires-clause-inside : goal.rehouse-requires-clause-inside
rehouse-requires-clause-inside g c = omega (arith, run_within c.args.attributes.now c.args.selectors.now c.args.slot c.args.first c.args.count c.requires.run c.requires.free 0 c.requires.few.0)

pub take_run-requires-clause-free : goal.take_run-requires-clause-free
take_run-requires-clause-free g c = λ number lt.
    let own = ap (λ a. unwrap_or (option_map (λ a. a.slots) a) 0) c.in-Some.is in
    let may = c.requires.free number lt in
    let inside = run_within c.args.attributes.now c.args.selectors.now c.args.slot c.args.first c.args.count c.requires.run c.requires.free number lt in
    let back = c.give_run.ensures.given (c.args.first + number) in
    (grind (arith, nat_tests), omega arith, grind (arith, nat_tests))
