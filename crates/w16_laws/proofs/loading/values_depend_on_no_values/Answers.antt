use Rattle.w16_loading.proofs.Values.{values_law}
use Rattle.w16_laws.proofs.loading.values_depend_on_no_values.Goals as goal

pub returns : goal.returns
returns c = values_law
