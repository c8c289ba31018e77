-- A segment more: its object gets its bytes, and leaves the others without, or it ends all.
use Rattle.w16_loader.proofs
use proofs.Common.{◌≡◌, ◌+◌, ◌-◌, ◌<◌, ◌≤◌, length, refl, ◌∙◌, sym, arith, subst, IsItsFiles, IsSaid, gives_over}
use proofs.Fillings.{part_at, part_unfilled, part_goes, part_ends, parts_done, at_none, rest_then}
use proofs.Givings.{turn_since}
use Rattle.w16_loader.proofs.filling.fill_segments.Goals as goal

pub loop-done-init : goal.loop-done-init
loop-done-init g c = record {
  files = refl;
  failures = omega arith;
  rest = refl;
  kept = λ slot s out is. is;
  given = λ read place after le is_read its empty failure last h. h;
}

pub loop-done-preserved : goal.loop-done-preserved
loop-done-preserved g c =
    let same : c.loop-done.done + 1 - 1 ≡ c.loop-done.done = omega arith in
    let inside : c.loop-done.done + 1 - 1 < length c.args.loaded.now.tables.segments = omega (arith, c.segment_count-count.ensures, c.loop-done-test.true) in
    record {
      files = c.in-Ok.ensures.stays.same ∙ c.loop-done.invariant.files;
      failures = omega (arith, c.in-Ok.ensures.stays.counted, c.loop-done.invariant.failures);
      rest = rest_then c.args.global.now.handles c.loop-done.global.handles _ c.loop-done.invariant.rest c.in-Ok.ensures.rest;
      kept = λ slot s out is. c.in-Ok.ensures.kept slot s (out _ (omega arith)) (c.loop-done.invariant.kept slot s (λ i lt. out i (omega (arith, lt))) is);
      given = λ read place after le is_read its empty.
          let part = part_at _ read is_read _ inside in
          let before : g.S.Store.failures c.loop-done.store ≤ after = omega (arith, c.in-Ok.ensures.stays.counted, le) in
          let still : g.S.Store.is_honest → IsSaid (g.S.Store.files c.loop-done.store) c.args.loaded.now read × IsItsFiles c.args.loaded.now read =
          λ honest. (subst (λ files. IsSaid files c.args.loaded.now read) (sym c.loop-done.invariant.files) (its honest).0, (its honest).1) in
          part_goes place _ read _ _ c.loop-done.global.handles.heap _ _ _ same part
          (c.loop-done.invariant.given read place after before is_read its empty)
          (turn_since _ _ (g.S.Store.failures _)
          _ after c.loop-done.invariant.failures le _ _ _ _
          (c.in-Ok.ensures.given read place part is_read still
          (part_unfilled _ read _ _ _
          _ same empty part c.loop-done.invariant.kept)));
    }

pub returns-in-Err-clause-rest : goal.returns-in-Err-clause-rest
returns-in-Err-clause-rest g c = rest_then c.args.global.now.handles c.loop-done.global.handles _ c.loop-done.invariant.rest c.in-Err.ensures.rest

pub returns-in-Err-clause-kept : goal.returns-in-Err-clause-kept
returns-in-Err-clause-kept g c = λ slot s all is. c.in-Err.ensures.kept slot s (at_none _ slot all _) (c.loop-done.invariant.kept slot s (λ i lt. at_none _ slot all i) is)

pub returns-in-Err-clause-given : goal.returns-in-Err-clause-given
returns-in-Err-clause-given g c = λ read place is_read its empty.
    let same : c.loop-done.done + 1 - 1 ≡ c.loop-done.done = omega arith in
    let inside : c.loop-done.done + 1 - 1 < length c.args.loaded.now.tables.segments = omega (arith, c.segment_count-count.ensures, c.loop-done-test.true) in
    let part = part_at _ read is_read _ inside in
    let after = g.S.Store.failures c.fill_segment.new.store in
    let still : g.S.Store.is_honest → IsSaid (g.S.Store.files c.loop-done.store) c.args.loaded.now read × IsItsFiles c.args.loaded.now read =
    λ honest. (subst (λ files. IsSaid files c.args.loaded.now read) (sym c.loop-done.invariant.files) (its honest).0, (its honest).1) in
    part_ends place _ read _ _ c.loop-done.global.handles.heap _ _ _ same part
    (c.loop-done.invariant.given read place after c.in-Err.ensures.stays.counted is_read its empty) (record { place = place; fault = c.in-Err.fault })
    (turn_since _ _ (g.S.Store.failures _)
    (g.S.Store.failures _) after c.loop-done.invariant.failures (omega arith) _ _ _ _
    (c.in-Err.ensures.given read place part is_read still
    (part_unfilled _ read _ _ _
    _ same empty part c.loop-done.invariant.kept)))

pub returns-clause-kept : goal.returns-clause-kept
returns-clause-kept g c = λ slot s all is. c.loop-done.invariant.kept slot s (λ i lt. at_none _ slot all i) is

pub returns-clause-given : goal.returns-clause-given
returns-clause-given g c = λ read place is_read its empty.
    let all : length c.args.loaded.now.slots ≤ c.loop-done.done = omega (arith, is_read.slots, c.segment_count-count.ensures, c.loop-done-test.false) in
    parts_done place c.args.loaded.now read _ _ _ _ all
    (c.loop-done.invariant.given read place _ (omega arith) is_read its empty)
