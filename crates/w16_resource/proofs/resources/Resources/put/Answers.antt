-- The list's load is the map's.
use Rattle.w16_resource.proofs.Common.{Some, ap, load_in, loads_in, set, ◌∙◌}
use Rattle.std.specs.FinMap as finmap
use Rattle.w16_resource.proofs.Listed.{load_put, same_loads}
use Rattle.w16_resource.proofs.resources.Resources.put.Goals as goal

pub returns : goal.returns
returns g c =
    ap (λ place. loads_in (set c.reach.new.loads.items place (Some c.args.load))) c.from.ensures ∙ load_put c.reach.new.loads.items c.args.slot c.args.load c.reach.ensures.long
    ∙ ap (λ m. finmap.insert m c.args.slot (load_in c.args.load)) (same_loads c.reach.new.loads.items c.self.inside.loads.items c.reach.ensures.same ∙ c.self.view_is)
