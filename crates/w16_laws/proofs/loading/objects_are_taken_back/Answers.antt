use Rattle.w16_loading.proofs.Undone.{taken_back_law}
use Rattle.w16_laws.proofs.loading.objects_are_taken_back.Goals as goal

pub returns : goal.returns
returns c = taken_back_law
