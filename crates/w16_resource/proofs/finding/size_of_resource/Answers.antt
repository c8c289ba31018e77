-- The length is that of the table, or there is none.
use Rattle.w16_resource.proofs.Common.{ap, entry_of, in_world, option_map, sym, unwrap_or}
use Rattle.w16_resource.proofs.Fetched.{source_resource}
use Rattle.w16_resource.proofs.finding.size_of_resource.Goals as goal

pub returns-in-None : goal.returns-in-None
returns-in-None g c = λ rest. sym (ap (λ p. unwrap_or (option_map (λ r. r.length_in) p) 0) (c.in-None.ensures.none rest))

pub returns-in-Some : goal.returns-in-Some
returns-in-Some g c = λ rest. sym (ap (λ p. unwrap_or (option_map (λ r. r.length_in) p) 0)
    (source_resource (in_world rest c.args.registry.now) c.args.handle c.args.place c.in-Some.source.file.now (entry_of c.in-Some.source.resource) c.in-Some.ensures.found))
