-- One of the two handles is the object's, or the slot has none.
use Rattle.w16_loader.proofs.Common.{◌-◌, refl, ap, ◌∙◌, Handles}
use Rattle.w16_loader.proofs.Endings.{released, released_twice}
use Rattle.w16_loader.proofs.ending.release_slot.Goals as goal

pub returns : goal.returns
returns g c = c.release-2.ensures
    ∙ (λ i. record (c.release.ensures i) { handles = released ((c.release.ensures i).handles) (c.selector_of-selector.result - 1) })
    ∙ ap (λ h. record c.args.global.now { handles = h })
    (released_twice _ c.reveal_handles.ensures _ _ _ c.selector_of-selector.ensures refl)
