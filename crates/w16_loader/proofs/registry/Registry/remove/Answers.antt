-- The table's entry is the map's, and what it imported isn't counted any more.
use Rattle.w16_loader.proofs.Counting.{few, gone_counts, gone_named, inside, was_counted}
use Rattle.w16_loader.proofs.{Common.ap, Common.◌∙◌, Common.registered, Registered.module_there}
use Rattle.w16_loader.proofs.registry.Registry.remove.Goals as goal

pub returns-in-None-clause-found : goal.returns-in-None-clause-found
returns-in-None-clause-found g c = module_there c.self.inside.entries _ c.self.view_is c.in-None.ensures.found

pub returns-in-None-clause-none : goal.returns-in-None-clause-none
returns-in-None-clause-none g c = ap registered c.in-None.ensures.none ∙ c.self.view_is

pub recount-requires-clause-counted : goal.recount-requires-clause-counted
recount-requires-clause-counted g c = was_counted c.self.invariant _ c.in-Some.ensures.found
    (c.imports.ensures ∙ ap (λ m. m.imports) c.deref.ensures)

pub recount-requires-clause-few : goal.recount-requires-clause-few
recount-requires-clause-few g c = few c.self.invariant c.args.handle

pub invariant_of-self-in-Some : goal.invariant_of-self-in-Some
invariant_of-self-in-Some g c = gone_counts c.self.invariant _ c.in-Some.ensures.found
    (c.imports.ensures ∙ ap (λ m. m.imports) c.deref.ensures) c.recount.new.counts.items c.in-Some.ensures.gone c.recount.ensures.many c.recount.ensures.each

pub returns-in-Some-clause-found : goal.returns-in-Some-clause-found
returns-in-Some-clause-found g c = module_there c.self.inside.entries _ c.self.view_is c.in-Some.ensures.found

pub returns-in-Some-clause-gone : goal.returns-in-Some-clause-gone
returns-in-Some-clause-gone g c = gone_named c.self.invariant _ c.in-Some.ensures.found c.self.view_is c.in-Some.ensures.gone

pub returns-in-Some-clause-inside : goal.returns-in-Some-clause-inside
returns-in-Some-clause-inside g c = inside c.self.invariant _ c.in-Some.ensures.found
