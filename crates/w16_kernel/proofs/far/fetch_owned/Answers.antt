-- What is fetched is a resource of the module that owns the object.
use Rattle.w16_kernel.proofs.Common.{LoadingWorld, ap, is_some, rules, sym, true, ◌/◌, ◌∙◌, ◌≡◌}
use Rattle.std.specs.FinMap as finmap
use Rattle.w16_kernel.proofs.Refetching.{resource_fetched}
use Rattle.w16_kernel.proofs.far.fetch_owned.Goals as goal

pub returns-clause-fetch : goal.returns-clause-fetch
returns-clause-fetch g c =
    let here : is_some (finmap.get c.loading.inside.resources (c.args.handle / 8)) ≡ true = search rules in
    let loaded = ap (λ (w : LoadingWorld). is_some (finmap.get w.loads (c.args.handle / 8))) (sym c.loading.view_is) ∙ here in
    resource_fetched c.requires.loading _ c.fetch_resource.ensures.stays (c.fetch_resource.ensures.step c.requires.loading c.requires.lacks loaded)
