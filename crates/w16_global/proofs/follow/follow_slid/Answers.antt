use Rattle.w16_global.proofs.Common.{◌∙◌, ◌<◌, inr, sym, ap, subst, arith, is_some, begins_in}
use Rattle.w16_global.proofs.{Following.further, Told.placed_below, Told.run_known, Told.run_sized, Told.told_labelled}
use Rattle.w16_global.proofs.follow.follow_slid.Goals as goal

pub objects-preserved : goal.objects-preserved
objects-preserved g c =
    let now = c.objects.invariant in
    let inside = c.in-Some.ensures.inside in
    let real = c.in-Some.ensures.real in
    let there = c.in-Some.ensures.there in record {
      above = omega (arith, now.above, inside.0);
      ends = inr (omega arith);
      so_far = further c.args.objects.now c.args.attributes.now c.requires.handles c.args.selectors.now c.requires.labelled c.args.slid.from c.objects.from c.in-Some.block now.above inside.0 real.0 there.0 there.1 c.in-Some.ensures.lowest c.objects.selectors now.so_far _ (omega arith) (omega arith)
          _ c.place_run.ensures.placed;
      many = c.place_run.ensures.many ∙ now.many;
    }

pub place_run-requires-clause-known : goal.place_run-requires-clause-known
place_run-requires-clause-known g c = λ number below.
    (run_known c.args.objects.now c.args.attributes.now c.requires.handles _
    (told_labelled c.args.objects.now c.args.attributes.now c.requires.handles
    (begins_in c.args.objects.now.heap _ _) c.args.selectors.now _
    c.requires.labelled c.objects.invariant.so_far)
    _ _ (subst (λ n. number < n) (sym (run_sized c.args.objects.now c.args.attributes.now c.requires.handles c.in-Some.block.id _ c.in-Some.ensures.there.1)) below)).0

pub place_run-requires-clause-numbered : goal.place_run-requires-clause-numbered
place_run-requires-clause-numbered g c = λ number below.
    (run_known c.args.objects.now c.args.attributes.now c.requires.handles _
    (told_labelled c.args.objects.now c.args.attributes.now c.requires.handles
    (begins_in c.args.objects.now.heap _ _) c.args.selectors.now _
    c.requires.labelled c.objects.invariant.so_far)
    _ _ (subst (λ n. number < n) (sym (run_sized c.args.objects.now c.args.attributes.now c.requires.handles c.in-Some.block.id _ c.in-Some.ensures.there.1)) below)).1

pub place_run-requires-clause-enough : goal.place_run-requires-clause-enough
place_run-requires-clause-enough g c = run_sized c.args.objects.now c.args.attributes.now c.requires.handles c.in-Some.block.id _ c.in-Some.ensures.there.1

pub place_run-requires-clause-few : goal.place_run-requires-clause-few
place_run-requires-clause-few g c = omega (arith, c.objects.invariant.many, c.requires.many.1, c.requires.many.2)

pub overflow_cast-block : goal.overflow_cast-block
overflow_cast-block g c = omega (arith, (placed_below c.args.objects.now c.args.attributes.now c.requires.handles c.in-Some.block.id (ap is_some c.in-Some.ensures.there.0)), c.requires.handles.few)
