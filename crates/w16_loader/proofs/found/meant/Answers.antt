-- A name that nothing there has is looked for among the new modules.
use Rattle.w16_loader.proofs.Common.{◌≡◌, Some, None, option_map, ap, ◌∙◌, rules, referent_of}
use Rattle.w16_loader.proofs.{Files.means_new, NameTags.same_places}
use Rattle.w16_loader.proofs.found.meant.Goals as goal

pub returns-in_err-place-in-None : goal.returns-in_err-place-in-None
returns-in_err-place-in-None g c = λ files.
    let none : c.from_residual.result ≡ None = search rules in
    ap (option_map _) none ∙ means_new _ files _ _ None c.in-None.ensures (c.in_err-place-in-None.ensures ∙ same_places _ _ _ c.name_tag-tag.ensures)

pub returns-in_ok-place-in-None : goal.returns-in_ok-place-in-None
returns-in_ok-place-in-None g c = λ files. means_new _ files _ _ (Some _) c.in-None.ensures (c.in_ok-place-in-None.ensures ∙ same_places _ _ _ c.name_tag-tag.ensures)
