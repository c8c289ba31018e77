use Rattle.w16_global.proofs.Common.{◌≡◌, ◌∙◌, ap, option_map, unwrap_or, Descriptor, rules}
use Rattle.w16_global.proofs.{Reach.base_known, Owners.handles_shown}
use Rattle.w16_global.proofs.global.Global16.get_selector_base.Goals as goal

pub returns : goal.returns
returns g c =
    let told : c.map_or.result ≡ unwrap_or (option_map (λ d. d.base) c.find.result) 0 = search rules in
    told ∙ ap (λ r. unwrap_or (option_map (λ d. d.base) r) 0) c.find.ensures.value ∙ base_known c.self.invariant (handles_shown c.self.view_is) c.args.selector
