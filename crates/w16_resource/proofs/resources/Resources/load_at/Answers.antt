-- The list's load is the map's.
use Rattle.w16_resource.proofs.Common.{None, ap, get_or, load_in, option_map, rules, ◌≡◌}
use Rattle.w16_resource.proofs.Listed.{load_at}
use Rattle.w16_resource.proofs.resources.Resources.load_at.Goals as goal

pub returns : goal.returns
returns g c =
    let found : c.flatten.result ≡ get_or c.self.inside.loads.items c.args.slot None = search rules in
    rw (← c.self.view_is, load_at c.self.inside.loads.items c.args.slot) (ap (option_map load_in) found)
