use Rattle.std.proofs.Common.{◌≡◌, None, get_or, rules, ◌∙◌}
use Rattle.w16_global.proofs.Owners.{attributes_shown, handles_shown}
use Rattle.w16_global.proofs.global.Global16.attributes_of.Goals as goal

pub returns : goal.returns
returns g c =
    let found : c.flatten.result ≡ get_or c.self.inside.attributes.items c.args.slot None = search rules in
    found ∙ attributes_shown c.self.invariant (handles_shown c.self.view_is) _
