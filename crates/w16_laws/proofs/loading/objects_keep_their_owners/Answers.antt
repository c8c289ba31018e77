use Rattle.w16_loading.proofs.KeptOwners.{owners_law}
use Rattle.w16_laws.proofs.loading.objects_keep_their_owners.Goals as goal

pub returns : goal.returns
returns g c = owners_law _
