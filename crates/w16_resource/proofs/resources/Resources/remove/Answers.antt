-- The list's load is the map's.
use Rattle.w16_resource.proofs.Common.{None, ap, arith, length, loads_in, set, ◌<◌, ◌∙◌, ◌≡◌, ◌≤◌}
use Rattle.std.specs.FinMap as finmap
use Rattle.w16_resource.proofs.Listed.{load_removed, none_behind, none_removed}
use Rattle.w16_resource.proofs.resources.Resources.remove.Goals as goal

pub returns-then-place-len : goal.returns-then-place-len
returns-then-place-len g c =
    let inside : c.args.slot < length c.self.inside.loads.items = omega arith in
    ap (λ place. loads_in (set c.self.inside.loads.items place None)) c.from-place.ensures
    ∙ load_removed c.self.inside.loads.items c.args.slot inside ∙ ap (λ m. finmap.remove m c.args.slot) c.self.view_is

pub returns-else-place-len : goal.returns-else-place-len
returns-else-place-len g c =
    let past : length c.self.inside.loads.items ≤ c.args.slot = omega arith in
    let none : finmap.get c.args.self.now c.args.slot ≡ None = (rw (← c.self.view_is) (none_behind c.self.inside.loads.items c.args.slot past)) in
    none_removed c.args.self.now c.args.slot none
