-- One segment more has its values.
use Rattle.w16_loader.proofs.Common.{◌≡◌, segment_in, ◌+◌, ◌++◌, ◌∷◌, [], ◌≤◌, length, map, sym, ap, ◌∙◌, subst, arith, length-map, length_push, take_all, targets_of, far_of, IsSaid}
use Rattle.std.specs.FinMap as finmap
use Rattle.w16_loader.proofs.Values.{count_said, fault_so, front_more, numbered_there, segment_more}
use Rattle.w16_loader.proofs.binding.module_values.Goals as goal

pub loop-place-preserved : goal.loop-place-preserved
loop-place-preserved g c =
    let named = finmap.get _ in
    let m = c.args.loaded.now in
    let place = c.loop-place.place in
    let before = c.loop-place.invariant in
    let one = c.in-Ok-segment_values.ensures.any in
    let segment = c.in-Ok-segment_values.segment in
    record {
      files = c.in-Ok-segment_values.ensures.stays.same ∙ before.files;
      failures = omega (arith, c.in-Ok-segment_values.ensures.stays.counted, before.failures);
      many = c.push_reserved.ensures.len ∙ ap (λ n. n + 1) before.many;
      room = c.push_reserved.ensures.capacity ∙ before.room;
      any = (
        before.any.0 ++ one.0 ∷ [],
        length_push _ one.0 ∙ ap (λ n. n + 1) before.any.1,
        ap (map (λ v. map far_of v.items)) c.push_reserved.ensures.items ∙ segment_more named m (λ v. map far_of v.items) _ one.0 c.loop-place.values.items segment one.1 before.any.2,
        λ read honest is.
            (let still = subst (λ files. IsSaid files m read) (sym before.files) is in
            let many = count_said _ m read is c.module.result.now c.module.ensures c.segment_count-count.result c.segment_count-count.ensures.count in
            let s = numbered_there _ place (omega (arith, many, c.loop-place-test.true)) in
            (λ i. before.any.3 read honest is i ++ one.2 read s.0 honest still s.2 i ∷ []) ∙ sym (front_more _ _ place s.0 s.1)),
      );
    }

pub returns-in-Err-clause-failed : goal.returns-in-Err-clause-failed
returns-in-Err-clause-failed g c = λ read honest is.
    let still = subst (λ files. IsSaid files c.args.loaded.now read) (sym c.loop-place.invariant.files) is in
    let many = count_said _ _ read is c.module.result.now c.module.ensures c.segment_count-count.result c.segment_count-count.ensures.count in
    let s = numbered_there read.segments c.loop-place.place (omega (arith, many, c.loop-place-test.true)) in
    fault_so (λ refusal h. h) _ _ _ c.in-Err.fault c.loop-place.invariant.failures (c.in-Err.ensures.failed read s.0 honest still s.2)

pub returns-clause-any : goal.returns-clause-any
returns-clause-any g c =
    let h = c.loop-place.invariant.any in
    let many : length c.module.result.now.segments ≡ length c.args.loaded.now.tables.segments =
    sym (length-map _ _) ∙ ap (λ u. length u.segments) c.module.ensures in (
      h.0,
      omega (arith, h.1, many, c.segment_count-count.ensures.count, c.loop-place-test.false, c.loop-place.invariant.many),
      h.2,
      λ read honest is.
          (let many = count_said (g.S.Store.files _) c.args.loaded.now read is c.module.result.now c.module.ensures c.segment_count-count.result c.segment_count-count.ensures.count in
          let past : length (map targets_of read.segments) ≤ c.loop-place.place = omega (arith, many, length-map read.segments targets_of, c.loop-place-test.false) in
          h.3 read honest is ∙ take_all c.loop-place.place (map _ _) past),
    )
