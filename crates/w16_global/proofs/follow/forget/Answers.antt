use Rattle.w16_global.proofs.Common.{◌∙◌, ◌≡◌, ◌<◌, ℕ, All, All-get_or, None, get_or, sym, ap, subst, bytes_at, arith, is_member, take, vacated}
use Rattle.w16_global.proofs.{Following.forgets_next, Told.run_known, Told.told_labelled}
use Rattle.w16_global.proofs.follow.forget.Goals as goal

pub overflow_cast-first : goal.overflow_cast-first
overflow_cast-first g c =
    let gone = All-get_or (λ first. (first < c.args.objects.now.cap) × (bytes_at c.args.objects.now.heap first ≡ None))
    c.discarded-discarded.result.now c.loop-id.id-index 0 c.loop-id-test.true
    (subst (All (λ first. (first < c.args.objects.now.cap) × (bytes_at c.args.objects.now.heap first ≡ None)))
    (sym c.discarded-discarded.ensures) c.requires.gone) in
    omega (arith, gone.0, c.requires.many.2)

pub vacate_run-requires-clause-known : goal.vacate_run-requires-clause-known
vacate_run-requires-clause-known g c = λ number below.
    (run_known c.args.objects.now c.args.attributes.now c.requires.handles _
    (told_labelled c.args.objects.now c.args.attributes.now c.requires.handles (λ first. is_member first (take _ _)) c.args.selectors.now _ c.requires.labelled c.loop-id.invariant.so_far)
    _ _ (subst (λ n. number < n) c.slots_of.ensures below)).0

pub vacate_run-requires-clause-few : goal.vacate_run-requires-clause-few
vacate_run-requires-clause-few g c = omega (arith, c.loop-id.invariant.many, c.requires.many.1, c.requires.many.2)

pub loop-id-preserved : goal.loop-id-preserved
loop-id-preserved g c =
    let id = get_or c.discarded-discarded.result.now c.loop-id.id-index 0 in
    let gone = All-get_or (λ first. (first < c.args.objects.now.cap) × (bytes_at c.args.objects.now.heap first ≡ None))
    c.discarded-discarded.result.now c.loop-id.id-index 0 c.loop-id-test.true
    (subst (All (λ first. (first < c.args.objects.now.cap) × (bytes_at c.args.objects.now.heap first ≡ None)))
    (sym c.discarded-discarded.ensures) c.requires.gone) in
    record {
      so_far = forgets_next c.args.objects.now c.args.attributes.now c.requires.handles c.args.selectors.now c.requires.labelled c.discarded-discarded.result.now c.loop-id.id-index c.loop-id.selectors _ c.loop-id-test.true gone.1 c.loop-id.invariant.so_far
          (λ q. c.vacate_run.ensures.vacated q ∙ ap (λ n. vacated id n c.loop-id.selectors q) c.slots_of.ensures);
      many = c.vacate_run.ensures.many ∙ c.loop-id.invariant.many;
    }
