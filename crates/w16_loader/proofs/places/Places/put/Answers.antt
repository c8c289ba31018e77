-- The place was left free, so there is room for the entry, and it gets the key.
use Rattle.std.proofs.Common.{None, Some, set, sym, ap, ◌∙◌, subst, length, arith}
use Rattle.std.proofs.{lemmas.List.set-set, lemmas.List.length-set, lemmas.Slice.Zip.AllZip-long}
use Rattle.w16_loader.proofs.{Keyed.place_left, Keyed.has_room, Keyed.put_placed, Keyed.put_keyed, NameTags.set_tags}
use Rattle.w16_loader.specs.Tags.{AreTags, name_tag}
use Rattle.w16_loader.proofs.places.Places.put.Goals as goal

pub insert_reserved-key-requires : goal.insert_reserved-key-requires
insert_reserved-key-requires g c = has_room c.self.invariant.0 c.args.place (place_left c.self.invariant.0 _ _ (c.self.view_is ∙ c.take.ensures.left) c.requires)

pub invariant_of-self : goal.invariant_of-self
invariant_of-self g c =
    let r = c.insert_reserved-key.ensures in
    let left = place_left c.self.invariant.0 _ _ (c.self.view_is ∙ c.take.ensures.left) c.requires in (
      put_keyed c.self.invariant.0 _ r.updates r.was_vacant left r.capacity r.len,
      subst (λ es. AreTags es (set c.self.inside.tags.items c.args.place c.name_tag.result)) (sym (put_placed c.self.invariant.0 _ r.updates r.was_vacant)) (set_tags _ _ c.args.place (Some _) _ c.self.invariant.1 (c.name_tag.ensures ∙ ap name_tag c.name.ensures)),
    )

pub returns : goal.returns
returns g c = put_placed c.self.invariant.0 _ c.insert_reserved-key.ensures.updates c.insert_reserved-key.ensures.was_vacant
    ∙ ap (λ l. set l c.args.place (Some c.args.entry)) (c.self.view_is ∙ c.take.ensures.left) ∙ set-set _ _ None _

pub index_mut-requires : goal.index_mut-requires
index_mut-requires g c = omega (arith, AllZip-long _ _ _ c.self.invariant.1, ap length (c.self.view_is ∙ c.take.ensures.left), length-set c.args.self.now c.args.place None, c.requires)
