-- Nothing stands where there is no key.
use Rattle.std.proofs.Common.{rules, ap, ◌∙◌}
use Rattle.w16_loader.specs.Places.{placed}
use Rattle.w16_loader.proofs.{Keyed.new_keyed, Keyed.none_placed, NameTags.new_tags}
use Rattle.w16_loader.proofs.places.Places.untaken.Goals as goal

pub returns : goal.returns
returns g c = ap (placed c.in_ok-entries.entries) (c.in_ok-keys.ensures.items_if_clones_equal (λ y e. search rules)) ∙ none_placed c.in_ok-entries.entries _

pub invariant_of-result : goal.invariant_of-result
invariant_of-result g c =
    let none = c.in_ok-keys.ensures.items_if_clones_equal (λ y e. search rules) in (
      new_keyed _ _ _ none c.in_ok-entries.ensures.empty c.in_ok-entries.ensures.capacity,
      new_tags _ _ _ (ap (placed c.in_ok-entries.entries) none ∙ none_placed c.in_ok-entries.entries _) (c.in_ok-tags.ensures.items_if_clones_equal (λ y e. search rules)),
    )
