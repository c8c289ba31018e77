use Rattle.w16_global.proofs.Common.{rules, ◌≡◌, ap, ◌∙◌, option_map, Block}
use Rattle.w16_global.proofs.Parts.{size_shown}
use Rattle.w16_global.proofs.objects.Objects.size.Goals as goal

pub returns : goal.returns
returns g c =
    let sizes : c.map.result ≡ option_map (λ x. x.size) c.block.result = search rules in
    sizes ∙ ap (option_map (λ x. x.size)) c.block.ensures.value ∙ size_shown c.self.invariant c.self.view_is _
