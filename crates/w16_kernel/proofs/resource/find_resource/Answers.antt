use Rattle.w16_kernel.proofs.Common.{ap, ◌∙◌, label_of}
use Rattle.w16_ne.specs.Resources.{label_of as ne_label}
use Rattle.w16_format.specs.Tables.{label_in}
use Rattle.w16_loader.specs.Registry.{in_world}
use Rattle.w16_loading.specs.Resource.{find_resource}
use Rattle.w16_kernel.proofs.resource.find_resource.Goals as goal

pub returns : goal.returns
returns g c = λ rest. c.find_resource.ensures rest ∙ ap (λ name. find_resource (in_world rest c.args.registry.now) c.args.handle name
    (label_in (ne_label c.resource_name-2.result))) c.resource_name.ensures
    ∙ ap (find_resource (in_world rest c.args.registry.now) c.args.handle (label_of c.args.name)) c.resource_name-2.ensures
