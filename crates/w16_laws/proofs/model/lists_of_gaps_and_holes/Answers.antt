use Rattle.w16_model.proofs.Starts.{gap_list_law}
use Rattle.w16_laws.proofs.model.lists_of_gaps_and_holes.Goals as goal

pub returns : goal.returns
returns c = gap_list_law
