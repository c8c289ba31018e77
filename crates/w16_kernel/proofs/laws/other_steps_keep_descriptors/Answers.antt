use Rattle.w16_kernel.proofs.Descriptors.{descriptors_law}
use Rattle.w16_kernel.proofs.laws.other_steps_keep_descriptors.Goals as goal

pub returns : goal.returns
returns g c = descriptors_law g.S.Store.is_honest
