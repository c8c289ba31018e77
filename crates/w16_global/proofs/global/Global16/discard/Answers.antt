use Rattle.w16_global.proofs.Common.{ap, sym, ◌∙◌, ◌<◌, subst, Handles, slots_at}
use Rattle.w16_global.proofs.{Changing.emptied_joined, Owners.handles_shown, Owners.labelled, Told.run_known, Told.slots_are}
use Rattle.w16_global.proofs.global.Global16.discard.Goals as goal

pub invariant_of-self-2 : goal.invariant_of-self-2
invariant_of-self-2 g c = emptied_joined c.self.invariant _ c.in_ok-discard.ensures.cap c.args.slot
    (handles_shown c.self.view_is) c.requires c.in_ok-discard.ensures.ok c.slots_at-count.result
    c.slots_at-count.ensures.value _ c.vacate_run.ensures.vacated c.vacate_run.ensures.many

pub vacate_run-requires-clause-known : goal.vacate_run-requires-clause-known
vacate_run-requires-clause-known g c = λ number below. (run_known c.self.inside.objects c.self.inside.attributes.items c.self.invariant.handles _ (labelled c.self.invariant) _ _
    (subst (λ n. number < n) (c.slots_at-count.ensures.value ∙ ap (λ v. slots_at v.attributes c.args.slot) (sym (handles_shown c.self.view_is)) ∙ sym (slots_are c.self.inside.objects c.self.inside.attributes.items c.self.invariant.handles c.args.slot)) below)).0
