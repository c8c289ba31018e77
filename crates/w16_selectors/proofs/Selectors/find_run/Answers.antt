use Rattle.std.proofs.Common.{◌≡◌, ◌+◌, length, unwrap_or, sym, ap, ◌∙◌, subst, arith}
use Rattle.w16_selectors.specs.Descriptors.{IsUntaken}
use Rattle.w16_selectors.proofs.Runs.{GoesOn, no_run, none_left, goes_on}
use Rattle.w16_selectors.proofs.Selectors.find_run.Goals as goal

pub loop-first-preserved : goal.loop-first-preserved
loop-first-preserved g c =
    let taken = c.in-Some.ensures.0 in
    let slots = rw c.self.view_is at c.self.inside.descriptors.ok.0 in
    let all : c.len-slots.result ≡ length c.args.self.now = c.len-slots.ensures ∙ slots in
    let next : GoesOn (IsUntaken c.args.self.now) (c.in-Some.taken + 1) (length c.args.self.now) (unwrap_or c.next_free.result (length c.args.self.now)) =
    goes_on _ _ _ c.next_free.result (omega arith) c.next_free.ensures in
    let on : GoesOn (IsUntaken c.args.self.now) (c.in-Some.taken + 1) (length c.args.self.now) c.unwrap_or-first.result =
    subst (GoesOn _ _ _) (ap (unwrap_or c.next_free.result) (sym all) ∙ sym c.unwrap_or-first.ensures) next in record {
      above = omega arith;
      inside = on.high;
      lowest = no_run _ c.loop-first.first _ _ _ c.loop-first.invariant.lowest taken.low taken.high c.in-Some.ensures.1 on.none;
    }

pub returns-clause-none : goal.returns-clause-none
returns-clause-none g c =
    let slots = rw c.self.view_is at c.self.inside.descriptors.ok.0 in
    let all : c.len-slots.result ≡ length c.args.self.now = c.len-slots.ensures ∙ slots in
    none_left c.args.self.now c.loop-first.first c.args.count c.loop-first.invariant.lowest (let few = c.loop-first-test.false in omega arith)
