use Rattle.std.specs.Prelude.{IfSome}
use Rattle.w16_ne.proofs.Common.{◌≡◌, ◌<◌, ℕ, List, Option, Some, None, length, sym, ap, ◌∙◌, option_map, label_of, entry_of, Tables, Typed, HasResources}
use Rattle.w16_ne.proofs.{ModuleFormat.module_format, ResourcesFormat.resources_begin}
use Rattle.w16_ne.specs.{Modules.resource_at, declared.resource_places.Resource.Resource, declared.resource_places.ResourceName.ResourceName}
use Rattle.w16_ne.proofs.module_file.Module.resource.Goals as goal

begins : (file header : List ℕ) (ne place : ℕ) (types : List Typed) (o : Option (ResourceName × Resource)) → HasResources file ne header types
    → option_map (λ f. (label_of f.0, entry_of f.1)) o ≡ resource_at types place → IfSome o (λ f. 0 < f.1.len → f.1.place < length file)
begins file header ne place types None has e = tt
begins file header ne place types (Some f) has e = resources_begin file header ne types has place (label_of f.0, entry_of f.1) (sym e)

pub returns-clause-inside : goal.returns-clause-inside
returns-clause-inside g c = λ file known.
    let t = c.args.self.now in
    begins file t.header t.place c.args.place t.resources c.resource.result ((module_format file t).0 known).resources
    (c.resource.ensures ∙ ap (λ x. resource_at x.resources c.args.place) c.self.view_is)
