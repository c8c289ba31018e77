use Rattle.w16_global.proofs.Common.{ap, rules, ◌≡◌, ◌+◌, None, replicate, FIRST_SLOT, Holding}
use Rattle.w16_global.proofs.Begin.{begin_joined, begin_handles}
use Rattle.w16_global.proofs.global.Global16.new.Goals as goal

pub invariant_of-result : goal.invariant_of-result
invariant_of-result g c =
    let items = c.in_ok-attributes.ensures.items_if_clones_equal (λ y h. search rules) in
    begin_joined c.args.memory _ c.requires.few _ _ _ c.in_ok-objects.ensures items c.in_ok-selectors.ensures

pub returns : goal.returns
returns g c =
    let items = c.in_ok-attributes.ensures.items_if_clones_equal (λ y h. search rules) in
    let handles = begin_handles _ _ c.requires.few c.in_ok-objects.objects _ c.in_ok-selectors.selectors c.in_ok-objects.ensures items in
    λ i. record { handles = handles i; written = ap (λ h. h.written) c.in_ok-objects.ensures i }
