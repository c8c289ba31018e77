use Rattle.w16_ne.proofs.Parts.{first_faults}
use Rattle.w16_ne.proofs.laws.parts_have_the_first_fault.Goals as goal

pub returns : goal.returns
returns c = first_faults
