use Rattle.w16_laws.proofs.ModuleEffects.{built_in_law, find_law, free_law, named_law, sizeof_law}
use Rattle.w16_laws.proofs.{LoadEffects.load_law, ResourceEffects.load_resource_law, ResourceEffects.lock_resource_law}
use Rattle.w16_laws.proofs.loading.calls_of_modules_do_what_they_are_for.Goals as goal

pub returns-clause-named : goal.returns-clause-named
returns-clause-named g c = named_law _

pub returns-clause-built_in : goal.returns-clause-built_in
returns-clause-built_in g c = built_in_law _

pub returns-clause-find : goal.returns-clause-find
returns-clause-find g c = find_law _

pub returns-clause-size : goal.returns-clause-size
returns-clause-size g c = sizeof_law _

pub returns-clause-free : goal.returns-clause-free
returns-clause-free g c = free_law _

pub returns-clause-load_resource : goal.returns-clause-load_resource
returns-clause-load_resource g c = load_resource_law _

pub returns-clause-lock_resource : goal.returns-clause-lock_resource
returns-clause-lock_resource g c = lock_resource_law _

pub returns-clause-load : goal.returns-clause-load
returns-clause-load g c = load_law _
