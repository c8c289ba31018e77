-- No entry has a tag that isn't there.
use Rattle.std.proofs.Common.{◌==◌, ◌∙◌, sym, ap}
use Rattle.std.specs.List.{list_any}
use Rattle.w16_loader.proofs.NameTags.{none_named}
use Rattle.w16_loader.proofs.places.Places.has_tag.Goals as goal

pub returns : goal.returns
returns g c = λ no name f. rw (← c.self.view_is) (none_named name _ f 0 _ _ c.self.invariant.1 (ap (list_any (λ u. u == c.args.tag)) (sym c.as_slice.ensures.value) ∙ sym c.is_among.ensures ∙ no))
