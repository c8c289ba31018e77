use Rattle.w16_model.proofs.Outcomes.{address_law}
use Rattle.w16_laws.proofs.model.pinned_objects_keep_their_address.Goals as goal

pub returns : goal.returns
returns c = address_law
