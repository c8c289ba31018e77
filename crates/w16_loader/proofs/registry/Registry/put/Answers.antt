-- The table's entry is the map's, and what it imports is counted.
use Rattle.w16_loader.proofs
use proofs.Common.{◌<◌, length, ap, ◌∙◌, arith, named_of, registered}
use proofs.Counting.{few, put_counts}
use proofs.Registered.{free_place, named_set}
use Rattle.std.specs.FinMap as finmap
use Rattle.w16_loader.proofs.registry.Registry.put.Goals as goal

pub recount-requires-clause-few : goal.recount-requires-clause-few
recount-requires-clause-few g c = few c.self.invariant c.args.handle

pub invariant_of-self : goal.invariant_of-self
invariant_of-self g c =
    let inside : c.args.handle < length c.self.inside.entries = omega (arith, c.requires, c.self.invariant.0.many) in
    put_counts c.self.invariant _ c.args.entry c.imports_of.result.now _ c.requires.0 inside
    (free_place c.self.inside.entries c.args.handle c.self.view_is c.requires.2) c.put.ensures c.imports_of.ensures c.recount.ensures.many c.recount.ensures.each

pub returns : goal.returns
returns g c =
    let inside : c.args.handle < length c.self.inside.entries = omega (arith, c.requires, c.self.invariant.0.many) in
    ap registered c.put.ensures ∙ named_set _ _ c.args.entry inside ∙ ap (λ modules. finmap.insert modules c.args.handle (named_of c.args.entry)) c.self.view_is
