-- The table's entries are the map's, and are counted.
use Rattle.w16_loader.proofs.Common.{◌+◌, ◌<◌, FIRST_MODULE, MOST_MODULES, arith, ◌∙◌, length, get_or_default}
use Rattle.w16_loader.proofs.{Counting.few, Registered.entries_are}
use Rattle.w16_loader.proofs.registry.Registry.importers.Goals as goal

pub returns-then-place-len-clause-many : goal.returns-then-place-len-clause-many
returns-then-place-len-clause-many g c = rw (← c.self.view_is, entries_are c.self.inside.entries) c.importers.ensures.many

pub returns-clause-many : goal.returns-clause-many
returns-clause-many g c =
    let inside : c.args.handle < length c.self.inside.counts.items = omega arith in
    let lt : c.args.handle < FIRST_MODULE + MOST_MODULES = omega (arith, c.self.invariant.1.many) in
    rw (← c.self.view_is, entries_are c.self.inside.entries) (c.from.ensures ∙ c.index.ensures ∙ get_or_default _ _ _ 0 inside ∙ c.self.invariant.1.each _ lt)

pub returns-clause-few : goal.returns-clause-few
returns-clause-few g c =
    let inside : c.args.handle < length c.self.inside.counts.items = omega arith in
    let lt : c.args.handle < FIRST_MODULE + MOST_MODULES = omega (arith, c.self.invariant.1.many) in
    let is = c.from.ensures ∙ c.index.ensures ∙ get_or_default _ _ _ 0 inside in
    omega (arith, is, few c.self.invariant 0 c.args.handle lt)
