use Rattle.w16_loading.proofs.Filled.{fill_law}
use Rattle.w16_laws.proofs.loading.segments_are_allocated_and_written.Goals as goal

pub returns : goal.returns
returns c = fill_law
