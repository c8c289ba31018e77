use Rattle.w16_loading.proofs.Owners.{owner_law}
use Rattle.w16_laws.proofs.loading.owners_are_told.Goals as goal

pub returns : goal.returns
returns c = owner_law
