use Rattle.w16_global.proofs.Common.{ap, sym, ◌∙◌, ◌<◌, subst, Handles, Holding, Global, slots_at}
use Rattle.w16_global.proofs.{Joining.removed_joined, Joining.removed_shown, Owners.handles_shown, Owners.labelled, Told.run_known, Told.slots_are}
use Rattle.w16_global.proofs.global.Global16.remove.Goals as goal

pub invariant_of-self : goal.invariant_of-self
invariant_of-self g c = removed_joined c.self.invariant c.release.new.self (ap (λ h. h.cap) c.release.ensures) c.args.slot (handles_shown c.self.view_is) c.requires (ap (λ h. h.heap) c.release.ensures) c.slots_at-count.result c.slots_at-count.ensures.value
    _ c.give_run.ensures.given c.give_run.ensures.many

pub returns : goal.returns
returns g c =
    let left = removed_shown c.self.invariant c.release.new.self (ap (λ h. h.cap) c.release.ensures) c.args.slot (handles_shown c.self.view_is) c.requires (ap (λ h. h.heap) c.release.ensures) in
    λ i. record { handles = left i; written = (ap (λ h. h.written) c.release.ensures ∙ ap (λ g. g.written) c.self.view_is) i }

pub give_run-requires-clause-known : goal.give_run-requires-clause-known
give_run-requires-clause-known g c = λ number below. (run_known c.self.inside.objects c.self.inside.attributes.items c.self.invariant.handles _ (labelled c.self.invariant) _ _
    (subst (λ n. number < n) (c.slots_at-count.ensures.value ∙ ap (λ v. slots_at v.attributes c.args.slot) (sym (handles_shown c.self.view_is)) ∙ sym (slots_are c.self.inside.objects c.self.inside.attributes.items c.self.invariant.handles c.args.slot)) below)).0
