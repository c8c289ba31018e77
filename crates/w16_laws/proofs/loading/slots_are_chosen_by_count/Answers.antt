use Rattle.w16_laws.proofs.Slots.{slots_law}
use Rattle.w16_laws.proofs.loading.slots_are_chosen_by_count.Goals as goal

pub returns : goal.returns
returns c = slots_law
