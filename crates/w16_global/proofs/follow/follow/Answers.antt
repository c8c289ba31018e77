use Rattle.w16_global.proofs.Common.{◌||◌, refl, ◌∙◌, begins_in, is_member}
use Rattle.w16_global.proofs.Told.{told_labelled, told_more}
use Rattle.w16_global.proofs.follow.follow.Goals as goal

pub follow_slid-requires-clause-labelled : goal.follow_slid-requires-clause-labelled
follow_slid-requires-clause-labelled g c = told_labelled c.args.objects.now c.args.attributes.now c.requires.handles (λ first. is_member first c.args.objects.now.discarded) c.args.selectors.now _ c.requires.labelled c.forget.ensures.told

pub follow_slid-requires-clause-many : goal.follow_slid-requires-clause-many
follow_slid-requires-clause-many g c = (c.requires.many.0, c.forget.ensures.many ∙ c.requires.many.1, c.requires.many.2)

pub returns-clause-told : goal.returns-clause-told
returns-clause-told g c = told_more c.args.objects.now c.args.attributes.now c.requires.handles (λ first. is_member first c.args.objects.now.discarded) (begins_in c.args.objects.now.heap _ _)
    (λ first. is_member first c.args.objects.now.discarded || begins_in c.args.objects.now.heap c.args.slid.from c.args.slid.to first) c.args.selectors.now c.forget.new.selectors _ (λ first. refl) c.forget.ensures.told c.follow_slid.ensures.told
