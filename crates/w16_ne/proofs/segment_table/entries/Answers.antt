use Rattle.w16_ne.proofs.Common.{ℕ, ◌*◌, ◌∙◌, Result, arith, rules, err_from_is_err_and, All-push, file_of, NeFault, Segment, IsSized, segment_at, entries_at}
use Rattle.w16_ne.proofs.{Each.goes_on, Each.stops, Until.fails_on}
use Rattle.w16_ne.proofs.segment_table.entries.Goals as goal

pub returns-in_err-segment-clause-exact : goal.returns-in_err-segment-clause-exact
returns-in_err-segment-clause-exact g c = λ honest.
    let entry : ℕ → Result Segment NeFault = λ i. segment_at (file_of (g.S.Store.files c.args.store.now) c.args.name.now) c.args.shift c.args.table.now (8 * i) in
    let p = err_from_is_err_and c.from_residual.result c.from_residual.ensures.1 in
    let said = rw (c.from.ensures, c.loop-i.invariant.0) at c.in_err-segment.ensures.exact honest in
    rw (p.1, p.2) (fails_on (file_of (g.S.Store.files c.args.store.now) c.args.name.now) _ _ _ c.in_err-segment.field-0.0 (entry c.loop-i.i) (entries_at (file_of (g.S.Store.files c.args.store.now) c.args.name.now) c.args.shift c.args.table.now c.args.count) c.loop-i.invariant.1 said
    (λ e. stops entry c.loop-i.segments.items c.args.count c.loop-i.i _ _ c.loop-i-test.true e (c.loop-i.invariant.2 honest)))

pub loop-i-preserved : goal.loop-i-preserved
loop-i-preserved g c =
    let entry : ℕ → Result Segment NeFault = λ i. segment_at (file_of (g.S.Store.files c.args.store.now) c.args.name.now) c.args.shift c.args.table.now (8 * i) in (
      c.in_ok-segment.ensures.stays.same ∙ c.loop-i.invariant.0,
      omega (arith, c.loop-i.invariant.1, c.in_ok-segment.ensures.stays.counted),
      λ honest.
          let said = rw (c.from.ensures, c.loop-i.invariant.0) at c.in_ok-segment.ensures.exact honest in
          rw c.in_ok-push.ensures.items (goes_on entry c.loop-i.segments.items c.args.count c.loop-i.i c.in_ok-segment.segment (entries_at (file_of (g.S.Store.files c.args.store.now) c.args.name.now) c.args.shift c.args.table.now c.args.count) c.loop-i-test.true said (c.loop-i.invariant.2 honest)),
      rw c.in_ok-push.ensures.items (All-push IsSized c.loop-i.segments.items c.in_ok-segment.segment c.loop-i.invariant.3 c.in_ok-segment.ensures.sized),
      omega (arith, c.loop-i.invariant.4, c.in_ok-push.ensures.len),
    )

pub returns-in_err-push-clause-exact : goal.returns-in_err-push-clause-exact
unfolding entries_at
returns-in_err-push-clause-exact g c = search rules

pub returns-clause-exact : goal.returns-clause-exact
unfolding entries_at
returns-clause-exact g c = search rules
