use Rattle.w16_ne.proofs.ModuleFormat.{one_module}
use Rattle.w16_ne.proofs.laws.a_file_has_one_module_or_one_fault.Goals as goal

pub returns : goal.returns
returns c = one_module
