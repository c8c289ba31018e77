-- The key goes from its place, and the entry from the slab.
use Rattle.std.proofs.Common.{None, get_or, set, sym, ap, ◌∙◌, subst}
use Rattle.std.proofs.lemmas.List.{set-get_or}
use Rattle.w16_loader.proofs.{Keyed.untouched, Keyed.take_placed, Keyed.take_keyed, NameTags.set_tags}
use Rattle.w16_loader.specs.Tags.{AreTags}
use Rattle.w16_loader.proofs.places.Places.take.Goals as goal

pub returns-in_err-key-clause-left : goal.returns-in_err-key-clause-left
returns-in_err-key-clause-left g c = rw (← c.self.view_is) (untouched c.self.invariant.0 _ (ap (λ l. get_or l c.args.place None) (sym c.as_slice.ensures.value) ∙ sym c.key_at.ensures ∙ c.in_err-key.was))

pub invariant_of-self : goal.invariant_of-self
invariant_of-self g c =
    let r = c.try_remove.ensures in
    let had = ap (λ l. get_or l c.args.place None) (sym c.as_slice.ensures.value) ∙ sym c.key_at.ensures ∙ c.in_ok-key.was in
    let tags = c.self.inside.tags.items in
    let kept = subst (AreTags _) (set-get_or tags c.args.place 0) (set_tags _ _ c.args.place None _ c.self.invariant.1 tt) in
    (take_keyed c.self.invariant.0 _ had r.updates r.value r.capacity r.len, subst (λ es. AreTags es tags) (sym (take_placed c.self.invariant.0 _ had r.updates)) kept)

pub returns-clause-left : goal.returns-clause-left
returns-clause-left g c =
    take_placed c.self.invariant.0 _ (ap (λ l. get_or l c.args.place None) (sym c.as_slice.ensures.value) ∙ sym c.key_at.ensures ∙ c.in_ok-key.was) c.try_remove.ensures.updates
    ∙ ap (λ l. set l c.args.place None) c.self.view_is
