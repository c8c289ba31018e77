use Rattle.w16_ne.proofs.ModuleFormat.{module_format}
use Rattle.w16_ne.proofs.laws.modules_are_read_where_they_are.Goals as goal

pub returns : goal.returns
returns c = module_format
